-- What is of a world, what receipts tell, and what was read.
use Rattle.std.specs.Prelude.{◌≡◌, ◌++◌, ◌-◌, ◌<◌, ◌≤◌, Bool, true, ℕ, List, [], ◌∷◌, length, take, Some, None, slice_get}
use Rattle.std.specs.List.{All, last_or}
use Rattle.std.specs.Option.{IsSomeAnd, option_map_or, unwrap_or}
use Rattle.ibc_ids.specs.declared.publication.Publication.{Publication}
use Rattle.ibc_ids.specs.Texts.{Text}
use Rattle.ibc_ids.specs.declared.refusal.Refusal.TheVariants.{NoMemory}
use Rattle.ibc_wire.specs.declared.messages.Message.{Message}
use Rattle.ibc_machine.specs.declared.event.Event.{Event}
use Rattle.ibc_machine.specs.declared.event.Event.TheVariants as event
use Rattle.ibc_machine.specs.declared.reply.Reply.{Reply}
use Rattle.ibc_machine.specs.declared.reply.Reply.TheVariants as reply
use Rattle.ibc_machine.specs.chain.Genesis.{GenesisState}
use Rattle.ibc_machine.specs.declared.reply.Effect.TheVariants as effect
use Rattle.ibc_machine.specs.ledger.Ledgers.{Ledger, IsLedger, chain_of, is_accepted_block, state_of}
use Rattle.ibc_machine.specs.ics18.Relay.{View, view_of}
use Rattle.ibc_machine.specs.ledger.Replay.{LedgerState, StampedEntry}
use Rattle.ibc_root_table.specs.Passes.{TableName}
use Rattle.ibc_ledger.specs.LedgerModel.{LedgerModel}
use Rattle.ibc_ledger.specs.SentPackets.{happened_on}
use Rattle.ibc_ledger_lock.specs.Calls.{AreCallsOf, Call, asked_by, call_of}
use Rattle.ibc_ledger_lock.specs.Calls.Call.{Unwritten}
use Rattle.ibc_ledger_lock.specs.KnownLedgers.{KnownLedger}

-- what a receipt tells: the number of the chain that was asked, the place of the call among all that were made on it, what was
-- asked, and the reply
pub record ReceiptModel : Type 0 where
  pub chain : ℕ
  pub place : ℕ
  pub event : Event
  pub reply : Reply

-- the receipt of a call on the event's chain, which asked for the event
abbrev pub IsReceiptOf : Event → ReceiptModel → Type 0
IsReceiptOf event told = (told.chain ≡ chain_of event) × (told.event ≡ event)

-- the last of these calls
abbrev pub last_call : List Call → Call
last_call calls = unwrap_or (last_or None calls) (Unwritten (event.Block 0 0))

-- what is told of the last of the calls on a chain, which was answered so
abbrev pub told_of : ℕ → Reply → List Call → ReceiptModel
told_of chain given calls = record { chain = chain; place = length calls - 1; event = asked_by (last_call calls); reply = given }

-- the last of these calls was answered so
abbrev pub IsLastAnswered : Reply → List Call → Type 0
IsLastAnswered given calls = IsSomeAnd (last_or None calls) (λ c. c ≡ call_of (asked_by c) given)

-- the call that the receipt tells of stands at its place among these
abbrev pub StandsAmong : List Call → ReceiptModel → Type 0
StandsAmong calls told = slice_get calls told.place ≡ Some (call_of told.event told.reply)

-- if it was made on the chain of this number
abbrev pub StandsOnItsChain : ℕ → List Call → ReceiptModel → Type 0
StandsOnItsChain chain calls told = told.chain ≡ chain → StandsAmong calls told

-- the call of a receipt was made after the call of an earlier one, if that was made on the same chain
abbrev pub IsBehind : ReceiptModel → ReceiptModel → Type 0
IsBehind told earlier = earlier.chain ≡ told.chain → earlier.place < told.place

-- the ledger is of this table and this genesis
abbrev pub IsOfWorld : TableName → GenesisState → LedgerModel → Type 0
IsOfWorld table genesis held = (held.table ≡ table) × (held.ledger.genesis ≡ genesis)

-- it is a ledger, of this table and this genesis
abbrev pub IsLedgerOf : TableName → GenesisState → LedgerModel → Type 0
IsLedgerOf table genesis held = IsOfWorld table genesis held × IsLedger held.ledger

-- what is known of a ledger as it is, which was asked so
abbrev pub known_with : Ledger → List Call → KnownLedger
known_with ledger calls = record { history = ledger.history; seen = ledger.seen; calls = calls }

-- a ledger that threads share, with all that it was asked
pub record SharedLedger : Type 0 where
  pub held : LedgerModel
  pub calls : List Call

-- the last call on a shared ledger was for this message, and was answered so
abbrev pub AddsMessageCall : SharedLedger → Message → Reply → SharedLedger → Type 0
AddsMessageCall old message given new = new.calls ≡ old.calls ++ call_of (event.Message old.held.ledger.chain message) given ∷ []

-- the last call on a shared ledger was for the end of its block, and was answered so
abbrev pub AddsBlockCall : SharedLedger → ℕ → Reply → SharedLedger → Type 0
AddsBlockCall old next_time given new = new.calls ≡ old.calls ++ call_of (event.Block old.held.ledger.chain next_time) given ∷ []

-- the ledger of a chain's number, of this table and this genesis, of which so much is known
abbrev pub ledger_as : TableName → GenesisState → ℕ → KnownLedger → LedgerModel
ledger_as table genesis chain known = record {
  ledger = record { genesis = genesis; chain = chain; history = known.history; seen = known.seen };
  table = table;
}

-- A ledger as it was once: its history has gone on since, its pass has seen more, and nothing else has changed.
abbrev pub IsEarlier : Ledger → Ledger → Type 0
IsEarlier old new = (entries : List StampedEntry) × (more : List Publication)
    × (new ≡ record old { history = old.history ++ entries; seen = old.seen ++ more })

-- There are calls that are all that the ledger was asked. Among them stands, at its place, the call of each of these receipts
-- that is of the ledger's chain.
abbrev pub HasAnswered : List ReceiptModel → LedgerModel → Type 0
HasAnswered receipts held =
    (calls : List Call) × AreCallsOf held.ledger calls × All (StandsOnItsChain held.ledger.chain calls) receipts

-- the receipt is of the ledger's chain, and memory didn't run out
abbrev pub IsAnsweredBy : LedgerModel → ReceiptModel → Type 0
IsAnsweredBy held told = (told.chain ≡ held.ledger.chain) × (told.reply ≡ reply.No NoMemory → ⊥)

-- Each of these receipts that the ledger answered has its event and its reply in the ledger's history, at a place that is past
-- those of earlier calls.
abbrev pub AreInHistory : List ReceiptModel → LedgerModel → Type 0
AreInHistory receipts held =
    (at : ℕ → ℕ)
    × All (λ told. IsAnsweredBy held told → slice_get (happened_on held.ledger) (at told.place) ≡ Some (told.event, told.reply)) receipts
    × All (λ told. IsAnsweredBy held told → (later : ℕ) → told.place < later → at told.place < at later) receipts

-- the state that the first n entries of a ledger leave
abbrev pub state_after : ℕ → Ledger → LedgerState
state_after n ledger = state_of (record ledger { history = take n ledger.history })

-- the state that a ledger had once is what the first entries leave, as many as it had then
abbrev pub HadItsState : Ledger → Ledger → Type 0
HadItsState old new = state_of old ≡ state_after (length old.history) new

-- the last of these entries ended a block, or there is none
abbrev pub ends_a_block : List StampedEntry → Bool
ends_a_block history = option_map_or (λ e. is_accepted_block e.entry) (last_or None history) true

-- the view is what the ledger showed after a block of its history, or in the beginning
abbrev pub HasShown : Ledger → View → Type 0
HasShown ledger view = (n : ℕ) × (n ≤ length ledger.history) × (ends_a_block (take n ledger.history) ≡ true)
    × (view ≡ view_of ledger.chain (state_after n ledger).chain)

-- the ledger was once as it was read, if that was read of its chain
abbrev pub IsEarlierOnItsChain : LedgerModel → LedgerModel → Type 0
IsEarlierOnItsChain held read = read.ledger.chain ≡ held.ledger.chain → IsEarlier read.ledger held.ledger

-- the view of a ledger as it stands (ICS 18, "Relayer algorithm")
abbrev pub view_shown : LedgerModel → View
view_shown held = view_of held.ledger.chain (state_of held.ledger).chain

-- the reply tells that a block of this height was ended
abbrev pub IsEndOf : Reply → ℕ → Type 0
IsEndOf given height = (root : Text) × (given ≡ reply.Ok (effect.Block height root))

-- the view shows the block whose end was answered so
abbrev pub ShowsEnd : ReceiptModel → View → Type 0
ShowsEnd told view = (view.chain ≡ told.chain) × IsEndOf told.reply view.height

-- the name of no table
abbrev pub no_table : TableName
no_table = record {
  id = record { words = 0; slots = 0; views_name = 0; atom = 0; block = 0; offset = 0; slot_names = [] };
  shape = record { chains = 0; window = 0; capacity = 0 };
}

abbrev pub no_genesis : GenesisState
no_genesis = record { capacity = 0; window = 0; chains = [] }
