-- A ledger: which chain of which genesis it is, its history, and the publications that its pass has seen.
use Rattle.std.specs.Prelude.{◌≡◌, ◌⊎◌, ◌++◌, ◌||◌, ℕ, suc, ◌+◌, ◌^◌, nat_lt, nat_le, ◌<◌, ◌≤◌, ◌==◌, ◌&&◌, Bool, true, false, List, [], ◌∷◌, length, map, is_some, Option, Some, None, IfSome, ⊤}
use Rattle.std.specs.List.{slice_get, AllByRecursion}
use Rattle.std.specs.Option.{option_map_or, unwrap_or}
use mathlib.Core.List.{IsPrefix}
use Rattle.ibc_ids.specs.Publications.{published_by, height_of, height_among}
use Rattle.ibc_ids.specs.declared.publication.Publication.{Publication}
use Rattle.ibc_ids.specs.declared.refusal.Refusal.TheVariants.{NoMemory}
use Rattle.ibc_wire.specs.Fields.{are_typed}
use Rattle.ibc_wire.specs.Messages.{message_fields}
use Rattle.ibc_wire.specs.declared.header.Header.{Header}
use Rattle.ibc_wire.specs.declared.messages.Message.TheVariants as message
use Rattle.ibc_machine.specs.declared.event.Event.{Event}
use Rattle.ibc_machine.specs.declared.event.Event.TheVariants as event
use Rattle.ibc_machine.specs.declared.reply.Effect.TheVariants as effect
use Rattle.ibc_machine.specs.declared.reply.Reply.{Reply}
use Rattle.ibc_machine.specs.declared.reply.Reply.TheVariants as reply
use Rattle.ibc_machine.specs.declared.entry.Entry.{Entry}
use Rattle.ibc_machine.specs.declared.entry.Reading.{Reading}
use Rattle.ibc_machine.specs.chain.Records.{Block, Client, client_at}
use Rattle.ibc_machine.specs.ics24.Image.{image, core_root}
use Rattle.ibc_machine.specs.ics02.Clients.{is_of_client}
use Rattle.ibc_machine.specs.chain.Genesis.{GenesisState}
use Rattle.ibc_machine.specs.chain.Machine.{World}
use Rattle.ibc_machine.specs.ledger.Replay.{LedgerState, StampedEntry, entry_answer, replay, met_states, starting_state}

pub record Ledger : Type 0 where
  pub genesis : GenesisState
  pub chain : ℕ
  pub history : List StampedEntry
  pub seen : List Publication

-- a function of a whole history, at a ledger
abbrev pub at_ledger : {A : Type 0} → (GenesisState → ℕ → List Publication → LedgerState → List StampedEntry → A) → Ledger → A
at_ledger f ledger =
    f ledger.genesis ledger.chain ledger.seen (starting_state ledger.genesis ledger.chain) ledger.history

-- the state of a ledger is the replay of its history
abbrev pub state_of : Ledger → LedgerState
state_of = at_ledger replay

-- each entry of a ledger with the state that it met
abbrev pub met_by : Ledger → List (LedgerState × StampedEntry)
met_by = at_ledger met_states

-- the chains of ledgers, in the machine
abbrev pub machine_of : List Ledger → World
machine_of ledgers = map (λ ledger. (state_of ledger).chain) ledgers

-- a block as its chain publishes it
abbrev pub published_as : ℕ → Block → Publication
published_as chain block = record { chain = chain; root = core_root block.records.core; time = block.time }

-- ---- events

-- the event is what its type promises: names have their form, numbers their range
abbrev pub is_typed : Event → Bool
is_typed (event.Message k m) = are_typed (message_fields m)
is_typed (event.Block k next_time) = nat_lt next_time (2 ^ 64)

-- the chain whose event it is
abbrev pub chain_of : Event → ℕ
chain_of (event.Message k m) = k
chain_of (event.Block k next_time) = k

-- the header that an event brings
abbrev pub header_in : Event → Option Header
header_in (event.Message k (message.UpdateClient m)) = Some m.header
header_in _ = None

-- an update of a client looks at what is published where the client is there and tracks the header's chain
abbrev pub is_looking : LedgerState → Event → Bool
is_looking state (event.Message k (message.UpdateClient m)) =
    option_map_or (λ (c : Client). is_of_client c m.header) (client_at state.chain.records.core m.client) false
is_looking state _ = false

abbrev pub is_block_reply : Reply → Bool
is_block_reply (reply.Ok (effect.Block height root)) = true
is_block_reply _ = false

-- a block that was ended
abbrev pub is_accepted_block : Entry → Bool
is_accepted_block entry = is_block_reply entry.reply

-- ---- readings

-- What was read fits a chain that has published so many heights by now. Where the header's height wasn't
-- published, the reading is of now. Where it was, its row was looked for up to now: it was there, and the
-- window hasn't passed it, or it was gone, and the window has passed it or is about to.
abbrev pub fits : ℕ → ℕ → ℕ → ℕ → Option Bool → Bool
fits window published height read None = (read == published) && nat_lt read height
fits window published height read (Some true) =
    nat_le height read && nat_le read published && nat_lt published (height + window)
fits window published height read (Some false) =
    nat_le height read && nat_le read published && nat_le (height + window) (published + 1)

abbrev pub reading_fits : ℕ → ℕ → ℕ → Reading → Bool
reading_fits window published height r = fits window published height r.published r.row_was_there

-- a reading fits what was seen then of the header's chain
abbrev pub IsReading : ℕ → List Publication → StampedEntry → Type 0
IsReading window seen e = IfSome e.entry.reading (λ r.
    (header : Header) × (n : ℕ) × (header_in e.entry.event ≡ Some header) × (e.stamp ≡ Some n)
    × (n ≤ length seen) × (reading_fits window (height_among header.chain n seen) header.height r ≡ true))

-- a block that was accepted is the last publication that was seen then
abbrev pub IsOwnBlock : ℕ → List Publication → StampedEntry → Type 0
IsOwnBlock chain seen e = is_accepted_block e.entry ≡ true
    → (n : ℕ) × (p : Publication) × (e.stamp ≡ Some (suc n)) × (slice_get seen n ≡ Some p) × (p.chain ≡ chain)

-- stamps never fall, and a block's is greater than all before it
abbrev pub AreRising : ℕ → List StampedEntry → Type 0
AreRising low [] = ⊤
AreRising low (e ∷ history) =
    IfSome e.stamp (λ n. (low ≤ n) × (is_accepted_block e.entry ≡ true → low < n))
    × AreRising (unwrap_or e.stamp low) history

-- a stamp stands just with a reading and with an own block
abbrev pub keeps_a_stamp : StampedEntry → Bool
keeps_a_stamp e = is_some e.entry.reading || is_accepted_block e.entry

-- ---- what is true of each ledger

-- an event of this chain, as its type promises
abbrev pub is_own_event : ℕ → StampedEntry → Bool
is_own_event chain e = (chain_of e.entry.event == chain) && is_typed e.entry.event

-- An entry in the state that it met: its event is of this chain and as its type promises, its reply is that of
-- the ledger's step, and it has a reading just where it looks.
pub record IsOwnEntry (ledger : Ledger) (at : LedgerState × StampedEntry) : Type 0 where
  pub event : is_own_event ledger.chain at.1 ≡ true
  pub reply : at.1.entry.reply ≡ (entry_answer ledger.genesis ledger.chain ledger.seen at.0 at.1).0
  pub looking : is_some at.1.entry.reading ≡ is_looking at.0 at.1.entry.event
  pub reading : IsReading ledger.genesis.window ledger.seen at.1
  pub block : IsOwnBlock ledger.chain ledger.seen at.1
  pub stamped : is_some at.1.stamp ≡ keeps_a_stamp at.1

pub record IsLedger (ledger : Ledger) : Type 0 where
  pub number : ledger.chain < length ledger.genesis.chains
  pub entries : AllByRecursion (IsOwnEntry ledger) (met_by ledger)
  -- its own publications are its committed blocks
  pub published : published_by ledger.chain ledger.seen
      ≡ map (published_as ledger.chain) (state_of ledger).chain.committed
  pub stamps : AreRising 0 ledger.history
  -- no committed tree is deeper than a proof can be spelled
  pub small : AllByRecursion (λ (block : Block). length (image block.records.core) < 2 ^ 64)
      (state_of ledger).chain.committed

-- ---- what a call does to a ledger

-- the pass has seen at least what it had seen, and nothing else changed
abbrev pub SeesMore : Ledger → Ledger → Type 0
SeesMore old new = (more : List Publication) × (new ≡ record old { seen = old.seen ++ more })

-- what was read is how many heights the chain had published at some time of the call: after what the pass had seen
-- before it, and before what the pass has seen after it
abbrev pub IsReadBetween : List Publication → List Publication → ℕ → ℕ → Type 0
IsReadBetween before after chain read =
    (mid : List Publication) × IsPrefix before mid × IsPrefix mid after × (read ≡ height_of chain mid)

-- what an entry read was so while it was made
abbrev pub ReadsThen : List Publication → List Publication → Entry → Type 0
ReadsThen before after entry = IfSome entry.reading (λ r. IfSome (header_in entry.event)
    (λ header. IsReadBetween before after header.chain r.published))

-- the history has one entry more, with this event and this reply; its stamp counts all that was seen before, and what
-- it read was so while it was made
abbrev pub AddsNext : Ledger → Event → Reply → Ledger → Type 0
AddsNext old event given new =
    (e : StampedEntry) × (more : List Publication) × (e.entry.event ≡ event) × (e.entry.reply ≡ given)
    × (new ≡ record old { history = old.history ++ e ∷ []; seen = old.seen ++ more })
    × IfSome e.stamp (λ n. length old.seen ≤ n) × ReadsThen old.seen (old.seen ++ more) e.entry

-- the history has one entry more, with this event and this reply
abbrev pub AddsEntry : Ledger → Event → Reply → Ledger → Type 0
AddsEntry old event given new =
    (e : StampedEntry) × (more : List Publication) × (e.entry.event ≡ event) × (e.entry.reply ≡ given)
    × (new ≡ record old { history = old.history ++ e ∷ []; seen = old.seen ++ more })

-- an event was applied: memory ran out and nothing was added, or there is one entry more
abbrev pub Adds : Ledger → Event → Reply → Ledger → Type 0
Adds old event given new = ((given ≡ reply.No NoMemory) × SeesMore old new) ⊎ AddsEntry old event given new
