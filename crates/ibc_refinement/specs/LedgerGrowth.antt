-- How a ledger grows: its pass sees more, and its history gets longer by an entry.
use Rattle.std.specs.Prelude.{◌≡◌, ◌++◌, ◌<◌, ◌≤◌, ◌^◌, true, List, [], ◌∷◌, length, map, IfSome, ℕ, Bool, false, Option, Some, None}
use Rattle.std.specs.List.{AllByRecursion}
use Rattle.ibc_ids.specs.Publications.{published_by, height_of}
use Rattle.ibc_ids.specs.declared.publication.Publication.{Publication}
use Rattle.ibc_machine.specs.chain.Records.{Block, MachineChain}
use Rattle.ibc_machine.specs.ics24.Image.{image}
use Rattle.ibc_machine.specs.ledger.Replay.{LedgerState, StampedEntry, entry_answer}
use Rattle.ibc_machine.specs.ledger.Ledgers.{Ledger, IsLedger, IsOwnEntry, published_as, state_of, is_accepted_block, header_in, reading_fits}
use Rattle.ibc_wire.specs.declared.header.Header.{Header}
use Rattle.ibc_machine.specs.declared.event.Event.{Event}
use Rattle.ibc_machine.specs.declared.reply.Reply.{Reply}
use Rattle.ibc_machine.specs.declared.entry.Reading.{Reading}

abbrev pub entry_of : Event → Reply → Option Reading → Option ℕ → StampedEntry
entry_of event reply reading stamp =
    record { entry = record { event = event; reply = reply; reading = reading }; stamp = stamp }

-- the stamp of all that was seen, where there is one
abbrev pub stamp_if : Bool → List Publication → Option ℕ
stamp_if true seen = Some (length seen)
stamp_if false seen = None

-- what was read of the header's chain fits what is seen of it
abbrev pub IsFittingReading : ℕ → List Publication → Event → Option Reading → Type 0
IsFittingReading window seen event reading = IfSome reading (λ r. (header : Header) × (header_in event ≡ Some header)
    × (reading_fits window (height_of header.chain seen) header.height r ≡ true))

-- the working block of a chain, as it is committed
abbrev pub working_block : MachineChain → Block
working_block chain = record { records = chain.records; time = chain.time }

abbrev pub with_seen : Ledger → List Publication → Ledger
with_seen ledger more = record ledger { seen = ledger.seen ++ more }

abbrev pub with_entry : Ledger → StampedEntry → List Publication → Ledger
with_entry ledger e more = record ledger { history = ledger.history ++ e ∷ []; seen = ledger.seen ++ more }

-- the state after an entry, where so many more publications were seen
abbrev pub state_with : Ledger → StampedEntry → List Publication → LedgerState
state_with ledger e more =
    (entry_answer ledger.genesis ledger.chain (ledger.seen ++ more) (state_of ledger) e).1

-- The entry is the ledger's next: it is its own in the state that it meets, its stamp is no smaller than what was
-- seen before, and the ledger's publications are then its committed blocks, of which none is too deep.
pub record IsNext (ledger : Ledger) (e : StampedEntry) (more : List Publication) : Type 0 where
  pub own : IsOwnEntry (with_entry ledger e more) (state_of ledger, e)
  pub stamp : IfSome e.stamp (λ n. (length ledger.seen ≤ n) × (is_accepted_block e.entry ≡ true → length ledger.seen < n))
  pub published : published_by ledger.chain (ledger.seen ++ more)
      ≡ map (published_as ledger.chain) (state_with ledger e more).chain.committed
  pub small : AllByRecursion (λ (block : Block). length (image block.records.core) < 2 ^ 64) (state_with ledger e more).chain.committed

abbrev pub LedgersSeeMore : Type 0
LedgersSeeMore =
    (ledger : Ledger) (more : List Publication) → IsLedger ledger
    → published_by ledger.chain (ledger.seen ++ more) ≡ published_by ledger.chain ledger.seen
    → IsLedger (with_seen ledger more) × (state_of (with_seen ledger more) ≡ state_of ledger)

abbrev pub LedgersGoOn : Type 0
LedgersGoOn =
    (ledger : Ledger) (e : StampedEntry) (more : List Publication) → IsLedger ledger → IsNext ledger e more
    → IsLedger (with_entry ledger e more) × (state_of (with_entry ledger e more) ≡ state_with ledger e more)
