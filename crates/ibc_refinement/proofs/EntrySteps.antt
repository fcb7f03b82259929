-- What an entry of a ledger does: the records stay typed, and a block is committed just where the reply is a
-- block's.
use Rattle.std.proofs.Common.{◌≡◌, ℕ, true, false, List, [], ◌∷◌, ◌++◌, length, refl, sym, ap, ◌∙◌, append_assoc, append-nil, Option, Ok, Err, inl, inr, ◌⊎◌}
use Rattle.std.specs.Prelude.{⊤, ◌==◌}
use Rattle.std.specs.List.{AllByRecursion}
use Rattle.std.proofs.lemmas.Bool.{and_parts}
use Rattle.ibc_ids.specs.declared.publication.Publication.{Publication}
use Rattle.ibc_wire.specs.declared.messages.Message.{Message}
use Rattle.ibc_machine.specs.declared.event.Event.{Event}
use Rattle.ibc_machine.specs.declared.event.Event.TheVariants as event
use Rattle.ibc_machine.specs.declared.reply.Effect.{Effect}
use Rattle.ibc_machine.specs.declared.reply.Reply.{Reply}
use Rattle.ibc_machine.specs.declared.entry.Reading.{Reading}
use Rattle.ibc_machine.specs.chain.Records.{Core, Apps, MachineChain, Block}
use Rattle.ibc_machine.specs.chain.Checks.{Checked}
use Rattle.ibc_machine.specs.chain.Genesis.{GenesisState}
use Rattle.ibc_machine.specs.chain.Handlers.{host_of, after_message, may_commit, after_block}
use Rattle.ibc_machine.specs.ledger.Replay.{LedgerState, StampedEntry, proof_evidence, after_answer, with_chain, ledger_answer, entry_answer, replay, met_states}
use Rattle.ibc_machine.specs.ledger.Ledgers.{Ledger, IsOwnEntry, is_typed, chain_of, is_block_reply}
use Rattle.ibc_machine.proofs.PassedRows.{Gives}
use Rattle.ibc_refinement.proofs.Typed.{IsTyped}
use Rattle.ibc_refinement.proofs.TypedMessages.{message_typed}
use Rattle.ibc_refinement.proofs.KeptTypes.{SoundBeside}
use Rattle.ibc_refinement.proofs.KeptRecords.{handle_sound}

-- the working block of a chain, as it is committed
abbrev pub working : MachineChain → Block
working chain = record { records = chain.records; time = chain.time }

pub record Commits (given : Reply) (old new : MachineChain) : Type 0 where
  pub typed : IsTyped new.records.core
  pub blocks : ((is_block_reply given ≡ false) × (new.committed ≡ old.committed))
      ⊎ ((is_block_reply given ≡ true) × (new.committed ≡ old.committed ++ working old ∷ []))

message_commits : (m : Message) (state : LedgerState) (x : Checked (Effect × Core × Apps)) → IsTyped state.chain.records.core → Gives SoundBeside x
    → Commits (after_answer m state (after_message state.chain x)).0 state.chain (after_answer m state (after_message state.chain x)).1.chain
message_commits m state (Err r) typed sound = record { typed = typed; blocks = inl (refl, refl) }
message_commits m state (Ok w) typed sound = let s = sound.gives w refl in record { typed = s.typed; blocks = inl (s.effect, refl) }

block_commits : (state : LedgerState) (next_time : ℕ) (x : Checked ⊤) → IsTyped state.chain.records.core
    → Commits (with_chain state (after_block state.chain next_time x)).0 state.chain (with_chain state (after_block state.chain next_time x)).1.chain
block_commits state next_time (Err r) typed = record { typed = typed; blocks = inl (refl, refl) }
block_commits state next_time (Ok w) typed = record { typed = typed; blocks = inr (refl, refl) }

pub answer_commits : (genesis : GenesisState) (k : ℕ) (seen : List Publication) (reading : Option Reading) (state : LedgerState) (e : Event) → IsTyped state.chain.records.core → is_typed e ≡ true
    → Commits (ledger_answer genesis k seen reading state e).0 state.chain (ledger_answer genesis k seen reading state e).1.chain
unfolding ledger_answer
answer_commits genesis k seen reading state (event.Message _ m) typed t =
    message_commits m state _ typed (handle_sound (proof_evidence seen reading state) (host_of (length genesis.chains) k state.chain) state.chain.records.core typed state.chain.records.apps m (message_typed m t))
answer_commits genesis k seen reading state (event.Block _ next_time) typed t = block_commits state next_time (may_commit genesis.capacity state.chain next_time) typed

-- a ledger of this genesis and number
abbrev pub ledger_of : GenesisState → ℕ → List StampedEntry → List Publication → Ledger
ledger_of genesis k history seen = record { genesis = genesis; chain = k; history = history; seen = seen }

pub own_typed : (ledger : Ledger) (state : LedgerState) (e : StampedEntry) → IsOwnEntry ledger (state, e) → is_typed e.entry.event ≡ true
own_typed ledger state e own = (and_parts (chain_of e.entry.event == ledger.chain) (is_typed e.entry.event) own.event).1

-- the blocks at the end of a history are those before it and some more
pub replay_grows : (ledger : Ledger) (genesis : GenesisState) (k : ℕ) (seen : List Publication) (state : LedgerState) (history : List StampedEntry) → IsTyped state.chain.records.core
    → AllByRecursion (IsOwnEntry ledger) (met_states genesis k seen state history)
    → (more : List Block) × ((replay genesis k seen state history).chain.committed ≡ state.chain.committed ++ more)
replay_grows ledger genesis k seen state [] typed own = ([], sym (append-nil state.chain.committed))
replay_grows ledger genesis k seen state (e ∷ history) typed own =
    let next = (entry_answer genesis k seen state e).1 in
    let c = answer_commits genesis k seen e.entry.reading state e.entry.event typed (own_typed ledger state e own.0) in
    let rest = replay_grows ledger genesis k seen next history c.typed own.1 in
    elim (c.blocks) [
      | inl w ↦ (rest.0, rest.1 ∙ ap (λ xs. xs ++ rest.0) w.1)
      | inr w ↦ (working state.chain ∷ rest.0, rest.1 ∙ ap (λ xs. xs ++ rest.0) w.1 ∙ append_assoc state.chain.committed (working state.chain ∷ []) rest.0)
    ]

-- a history with one entry more
pub replay_more : (genesis : GenesisState) (k : ℕ) (seen : List Publication) (state : LedgerState) (history : List StampedEntry) (e : StampedEntry)
    → replay genesis k seen state (history ++ e ∷ []) ≡ (entry_answer genesis k seen (replay genesis k seen state history) e).1
replay_more genesis k seen state [] e = refl
replay_more genesis k seen state (x ∷ history) e = replay_more genesis k seen (entry_answer genesis k seen state x).1 history e
