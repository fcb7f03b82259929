-- What a ledger answers: a chain that sees the others through published roots and proofs alone (ICS 2,
-- "Consensus state" and "Client state verification functions"). Its state is a function of its history.
use Rattle.std.specs.Prelude.{ℕ, ◌==◌, ◌&&◌, Bool, true, false, List, [], ◌∷◌, length, is_some, Option, Some, None}
use Rattle.std.specs.Option.{option_map, option_map_or, option_and_then, unwrap_or}
use Rattle.std.specs.List.{slice_get}
use Rattle.std.specs.Ordering.{ordering_then, nat_cmp}
use Rattle.std.specs.declared.cmp.Ordering.{Ordering}
use Rattle.ibc_ids.specs.Texts.{Text, same_text, text_cmp}
use Rattle.ibc_ids.specs.Maps.{Map, at, with}
use Rattle.ibc_ids.specs.Paths.{path}
use Rattle.ibc_ids.specs.Publications.{row_at}
use Rattle.ibc_ids.specs.declared.publication.Publication.{Publication}
use Rattle.ibc_merkle.specs.Proofs.{accepts}
use Rattle.ibc_wire.specs.Reading.{proof_of}
use Rattle.ibc_wire.specs.declared.header.Header.{Header}
use Rattle.ibc_wire.specs.declared.messages.Message.{Message}
use Rattle.ibc_wire.specs.declared.messages.Message.TheVariants as message
use Rattle.ibc_machine.specs.declared.event.Event.{Event}
use Rattle.ibc_machine.specs.declared.event.Event.TheVariants as event
use Rattle.ibc_machine.specs.declared.reply.Reply.{Reply}
use Rattle.ibc_machine.specs.declared.reply.Reply.TheVariants as reply
use Rattle.ibc_machine.specs.declared.entry.Entry.{Entry}
use Rattle.ibc_machine.specs.declared.entry.Reading.{Reading}
use Rattle.ibc_machine.specs.chain.Records.{MachineChain}
use Rattle.ibc_machine.specs.ics24.Values.{Claim, value_bytes}
use Rattle.ibc_machine.specs.ics24.Evidence.{Evidence, PublishedRow, Different, Gone}
use Rattle.ibc_machine.specs.chain.Genesis.{GenesisState, start, starting_chain}
use Rattle.ibc_machine.specs.chain.Handlers.{message_answer, block_answer}
use Rattle.ibc_machine.specs.chain.Machine.{row_if}

-- what a client knows of a height: the root and the time (ICS 2, "Consensus state")
pub record Consensus : Type 0 where
  pub root : Text
  pub time : ℕ

abbrev pub consensus_cmp : Text × ℕ → Text × ℕ → Ordering
consensus_cmp a b = ordering_then (text_cmp a.0 b.0) (nat_cmp a.1 b.1)

-- the chain itself, and the consensus states of its clients, by client and height
pub record LedgerState : Type 0 where
  pub chain : MachineChain
  pub consensus : Map (Text × ℕ) Consensus

abbrev pub consensus_at : LedgerState → Text → ℕ → Option Consensus
consensus_at state client height = at consensus_cmp (client, height) state.consensus

-- ---- the evidence of roots and proofs

-- the header has the time and the root that were published
abbrev pub is_published_as : Header → Publication → Bool
is_published_as header p = (header.time == p.time) && same_text header.root p.root

-- the row of a header's height, which was still there when it was asked for, or was gone
abbrev pub row_read : List Publication → Option Bool → Header → PublishedRow
row_read seen (Some true) header =
    row_if (option_map_or (is_published_as header) (row_at seen header.chain header.height) false)
row_read seen (Some false) header = Gone
row_read seen None header = Different

-- the bytes are a proof that is accepted for the claim under the root
abbrev pub is_shown : Claim → Text → Consensus → Bool
is_shown claim bytes known =
    option_map_or (λ proof. accepts proof known.root (path claim.key) (option_map value_bytes claim.value))
    (proof_of bytes) false

-- a ledger judges by what it read of the published heights, and by proofs under the roots that its clients know
abbrev pub proof_evidence : List Publication → Option Reading → LedgerState → Evidence
proof_evidence seen reading state = record {
  published = λ chain. option_map_or (λ r. r.published) reading 0;
  row = row_read seen (option_and_then (λ r. r.row_was_there) reading);
  time_at = λ client height. option_map_or (λ known. known.time) (consensus_at state client height) 0;
  is_proof = λ bytes. is_some (proof_of bytes);
  shows = λ client height claim proof.
      option_map_or (is_shown claim proof) (consensus_at state client height) false;
}

-- ---- a ledger's answer

-- a client that was told of a header knows its root and time
abbrev pub with_consensus : Message → Map (Text × ℕ) Consensus → Map (Text × ℕ) Consensus
with_consensus (message.UpdateClient m) known =
    with consensus_cmp (m.client, m.header.height) (record { root = m.header.root; time = m.header.time }) known
with_consensus _ known = known

abbrev pub after_answer : Message → LedgerState → Reply × MachineChain → Reply × LedgerState
after_answer m old (reply.Ok effect, chain) =
    (reply.Ok effect, record { chain = chain; consensus = with_consensus m old.consensus })
after_answer m old (reply.No refusal, chain) = (reply.No refusal, record old { chain = chain })

abbrev pub with_chain : LedgerState → Reply × MachineChain → Reply × LedgerState
with_chain old (given, chain) = (given, record old { chain = chain })

-- the reply of chain k to its event, and its state after it, where this was read
unfoldable pub ledger_answer : GenesisState → ℕ → List Publication → Option Reading → LedgerState → Event → Reply × LedgerState
ledger_answer genesis k seen reading state (event.Message _ m) =
    after_answer m state (message_answer (proof_evidence seen reading state) (length genesis.chains) k state.chain m)
ledger_answer genesis k seen reading state (event.Block _ next_time) =
    with_chain state (block_answer genesis.capacity state.chain next_time)

-- ---- histories

-- An entry of a history. Where it read a published height or published its own, its stamp is how many
-- publications the ledger's pass had seen then.
pub record StampedEntry : Type 0 where
  pub entry : Entry
  pub stamp : Option ℕ

abbrev pub entry_answer : GenesisState → ℕ → List Publication → LedgerState → StampedEntry → Reply × LedgerState
entry_answer genesis k seen state e = ledger_answer genesis k seen e.entry.reading state e.entry.event

-- the state after a history
abbrev pub replay : GenesisState → ℕ → List Publication → LedgerState → List StampedEntry → LedgerState
replay genesis k seen state [] = state
replay genesis k seen state (e ∷ history) =
    replay genesis k seen (entry_answer genesis k seen state e).1 history

-- each entry with the state that it met
abbrev pub met_states : GenesisState → ℕ → List Publication → LedgerState → List StampedEntry → List (LedgerState × StampedEntry)
met_states genesis k seen state [] = []
met_states genesis k seen state (e ∷ history) =
    (state, e) ∷ met_states genesis k seen (entry_answer genesis k seen state e).1 history

-- chain k in the beginning; its clients know nothing
abbrev pub empty_chain : MachineChain
empty_chain = starting_chain (record { time = 0; balances = [] })

abbrev pub starting_state : GenesisState → ℕ → LedgerState
starting_state genesis k =
    record { chain = unwrap_or (slice_get (start genesis) k) empty_chain; consensus = [] }
