-- What an entry of a ledger publishes: nothing, or its working block.
use Rattle.std.proofs.Common.{◌≡◌, ℕ, suc, ◌+◌, true, false, cond, List, [], ◌∷◌, ◌++◌, length, refl, sym, ap, ◌∙◌, Option, Ok, Err, inl, inr, ◌⊎◌, arith, length-append, slice_set}
use Rattle.std.specs.Prelude.{⊤, slice_index}
use Rattle.std.specs.List.{AllByRecursion}
use Rattle.std.proofs.lemmas.Bool.{false≢true}
use Rattle.ibc_ids.specs.declared.publication.Publication.{Publication}
use Rattle.ibc_wire.specs.declared.messages.Message.{Message}
use Rattle.ibc_machine.specs.declared.event.Event.{Event}
use Rattle.ibc_machine.specs.declared.event.Event.TheVariants as event
use Rattle.ibc_machine.specs.declared.reply.Effect.{Effect}
use Rattle.ibc_machine.specs.declared.reply.Effect.TheVariants as effect
use Rattle.ibc_machine.specs.declared.reply.Reply.{Reply}
use Rattle.ibc_machine.specs.declared.reply.Reply.TheVariants as reply
use Rattle.ibc_machine.specs.declared.entry.Reading.{Reading}
use Rattle.ibc_machine.specs.chain.Records.{Core, Apps, MachineChain}
use Rattle.ibc_machine.specs.ics24.Image.{core_root}
use Rattle.ibc_machine.specs.chain.Checks.{Checked}
use Rattle.ibc_machine.specs.chain.Genesis.{GenesisState}
use Rattle.ibc_machine.specs.chain.Handlers.{working_height, host_of, after_message, may_commit, after_block}
use Rattle.ibc_machine.specs.ledger.Replay.{LedgerState, StampedEntry, proof_evidence, after_answer, with_chain, ledger_answer, entry_answer, replay, met_states}
use Rattle.ibc_machine.specs.ledger.Ledgers.{Ledger, IsOwnEntry, is_typed, chain_of, is_block_reply}
use Rattle.ibc_machine.specs.ledger.Merge.{published_next}
use Rattle.ibc_machine.proofs.PassedRows.{Gives}
use Rattle.ibc_refinement.proofs.Typed.{IsTyped}
use Rattle.ibc_refinement.proofs.TypedMessages.{message_typed}
use Rattle.ibc_refinement.proofs.KeptTypes.{SoundBeside}
use Rattle.ibc_refinement.proofs.KeptRecords.{handle_sound}
use Rattle.ibc_refinement.proofs.EntrySteps.{working, answer_commits, own_typed}
use Rattle.ibc_refinement.proofs.Placed.{blocks}

-- nothing is published, and the working block goes on
abbrev pub GoesOn : Reply → MachineChain → MachineChain → Type 0
GoesOn given old new = (is_block_reply given ≡ false) × (new.time ≡ old.time) × (new.committed ≡ old.committed)

-- the working block is published, and the next begins
pub record EndsBlock (e : Event) (given : Reply) (old new : MachineChain) : Type 0 where
  pub next_time : ℕ
  pub event_is : e ≡ event.Block (chain_of e) next_time
  pub reply_is : given ≡ reply.Ok (effect.Block (working_height old) (core_root old.records.core))
  pub time : new.time ≡ next_time
  pub committed : new.committed ≡ old.committed ++ working old ∷ []

message_goes_on : (m : Message) (state : LedgerState) (x : Checked (Effect × Core × Apps)) → Gives SoundBeside x
    → GoesOn (after_answer m state (after_message state.chain x)).0 state.chain (after_answer m state (after_message state.chain x)).1.chain
message_goes_on m state (Err r) sound = (refl, refl, refl)
message_goes_on m state (Ok w) sound = ((sound.gives w refl).effect, refl, refl)

block_ends : (k next_time : ℕ) (state : LedgerState) (x : Checked ⊤)
    → GoesOn (with_chain state (after_block state.chain next_time x)).0 state.chain (with_chain state (after_block state.chain next_time x)).1.chain
    ⊎ EndsBlock (event.Block k next_time) (with_chain state (after_block state.chain next_time x)).0 state.chain (with_chain state (after_block state.chain next_time x)).1.chain
block_ends k next_time state (Err r) = inl (refl, refl, refl)
block_ends k next_time state (Ok w) = inr (record { next_time = next_time; event_is = refl; reply_is = refl; time = refl; committed = refl })

pub answer_ends : (genesis : GenesisState) (k : ℕ) (seen : List Publication) (reading : Option Reading) (state : LedgerState) (e : Event) → IsTyped state.chain.records.core → is_typed e ≡ true
    → GoesOn (ledger_answer genesis k seen reading state e).0 state.chain (ledger_answer genesis k seen reading state e).1.chain
    ⊎ EndsBlock e (ledger_answer genesis k seen reading state e).0 state.chain (ledger_answer genesis k seen reading state e).1.chain
unfolding ledger_answer
answer_ends genesis k seen reading state (event.Message chain m) typed t =
    inl (message_goes_on m state _ (handle_sound (proof_evidence seen reading state) (host_of (length genesis.chains) k state.chain) state.chain.records.core typed state.chain.records.apps m (message_typed m t)))
answer_ends genesis k seen reading state (event.Block chain next_time) typed t = block_ends chain next_time state (may_commit genesis.capacity state.chain next_time)

-- ---- what stands in a list for it

pub plain_next : (next : List ℕ → List Publication) (times : List ℕ) (e : Event) (given : Reply) → is_block_reply given ≡ false → published_next next times e given ≡ next times
plain_next next times (event.Message k m) given plain = refl
plain_next next times (event.Block k t) (reply.No r) plain = refl
plain_next next times (event.Block k t) (reply.Ok (effect.Block height root)) plain = absurd (false≢true (sym plain))
plain_next next times (event.Block k t) (reply.Ok other) plain = refl

pub block_next : (next : List ℕ → List Publication) (times : List ℕ) (e : Event) (given : Reply) (old new : MachineChain) (ends : EndsBlock e given old new)
    → published_next next times e given ≡ record { chain = chain_of e; root = core_root old.records.core; time = slice_index times (chain_of e) } ∷ next (slice_set times (chain_of e) ends.next_time)
block_next next times e given old new ends = let a = ends.event_is in let b = ends.reply_is in λ i. published_next next times (a i) (b i)

-- ---- as many blocks as were accepted

pub replay_counts : (ledger : Ledger) (state : LedgerState) (history : List StampedEntry) → IsTyped state.chain.records.core
    → AllByRecursion (IsOwnEntry ledger) (met_states ledger.genesis ledger.chain ledger.seen state history)
    → length (replay ledger.genesis ledger.chain ledger.seen state history).chain.committed ≡ length state.chain.committed + blocks history
replay_counts ledger state [] typed own = omega arith
replay_counts ledger state (e ∷ history) typed own =
    let next = (entry_answer ledger.genesis ledger.chain ledger.seen state e).1 in
    let done = answer_commits ledger.genesis ledger.chain ledger.seen e.entry.reading state e.entry.event typed (own_typed ledger state e own.0) in
    let rest = replay_counts ledger next history done.typed own.1 in
    elim (done.blocks) [
      | inl w ↦
          let accepted = ap is_block_reply own.0.reply ∙ w.0 in
          let one : blocks (e ∷ history) ≡ blocks history = ap (λ b. cond b (suc (blocks history)) (blocks history)) accepted in
          let lengths = ap length w.1 in
          omega arith
      | inr w ↦
          let accepted = ap is_block_reply own.0.reply ∙ w.0 in
          let one : blocks (e ∷ history) ≡ suc (blocks history) = ap (λ b. cond b (suc (blocks history)) (blocks history)) accepted in
          let lengths = ap length w.1 ∙ length-append state.chain.committed (working state.chain ∷ []) in
          omega arith
    ]
