-- A chain's ledger that is made again of the entries that were stored of it, beside the heights that the other chains published.
use Rattle.std.specs.Prelude.{◌≡◌, ◌≢◌, ◌≤◌, ◌<◌, ◌-◌, ◌==◌, ◌↔◌, ℕ, true, List, [], ◌∷◌, ◌++◌, take, map, length, Option, Some, None, IfSome, slice_get, if◌then◌else◌, unwrap_or, ⊤}
use Rattle.std.specs.Global.{Vec}
use Rattle.std.specs.List.{All}
use Rattle.ibc_ids.specs.Texts.{Text}
use Rattle.ibc_wire.specs.declared.header.Header.{Header}
use Rattle.ibc_machine.specs.declared.event.Event.{Event}
use Rattle.ibc_machine.specs.declared.reply.Reply.{Reply}
use Rattle.ibc_machine.specs.declared.reply.Reply.TheVariants as reply
use Rattle.ibc_machine.specs.declared.entry.Entry.{Entry}
use Rattle.ibc_machine.specs.declared.entry.Reading.{Reading}
use Rattle.ibc_machine.specs.chain.Genesis.{GenesisState}
use Rattle.ibc_machine.specs.ledger.Ledgers.{Ledger, IsLedger, chain_of, header_in, state_of}
use Rattle.ibc_machine.specs.promises.Worlds.{entries}
use Rattle.ibc_replay.specs.declared.replaying.Answered.{Answered}
use Rattle.ibc_chain_replay.specs.declared.replaying.ChainDifference.{ChainDifference}
use Rattle.ibc_chain_replay.specs.declared.replaying.ChainDifference.TheVariants.{NoGenesis, NoMemory, At, NotPublished, OtherChain}
use Rattle.ibc_replay.specs.Replays.{entry_of}

-- ---- what chains published

-- the heights of each chain, by its number: the root and the time of each, from height 1 on (ICS 2, "Height" and "Consensus
-- state")
abbrev pub Heights : Type 0
Heights = List (List (Text × ℕ))

-- as they lie in memory
abbrev pub heights_in : List (Vec (Text × ℕ)) → Heights
heights_in published = map (λ (v : Vec (Text × ℕ)). v.items) published

abbrev pub heights_of : Heights → ℕ → List (Text × ℕ)
heights_of published chain = unwrap_or (slice_get published chain) []

-- the root and the time of a height of a chain
abbrev pub height_at : Heights → ℕ → ℕ → Option (Text × ℕ)
height_at published chain height = if height == 0 then None else slice_get (heights_of published chain) (height - 1)

-- a header with the root and the time of a height that its chain published
abbrev pub IsPublished : Heights → Header → Type 0
IsPublished published header = height_at published header.chain header.height ≡ Some (header.root, header.time)

-- ---- an entry beside them

abbrev pub IsAccepted : Reply → Type 0
IsAccepted (reply.Ok effect) = ⊤
IsAccepted (reply.No refusal) = ⊥

-- So many heights of the header's chain were published as an update read. Where it found what stands at the header's height, it
-- was accepted just where the header is the published one.
pub record ReadsHeader (published : Heights) (given : Reply) (header : Header) (r : Reading) : Type 0 where
  pub high : r.published ≤ length (heights_of published header.chain)
  pub row : r.row_was_there ≡ Some true → (IsAccepted given ↔ IsPublished published header)

abbrev pub ReadsPublished : Heights → Entry → Type 0
ReadsPublished published e =
    IfSome e.reading (λ r. IfSome (header_in e.event) (λ header. ReadsHeader published e.reply header r))

-- more heights were read than the header's chain published
abbrev pub AreTooMany : Heights → Option Header → Option Reading → Type 0
AreTooMany published (Some header) (Some r) = length (heights_of published header.chain) < r.published
AreTooMany published _ _ = ⊥

abbrev pub ReadsTooMany : Heights → Entry → Type 0
ReadsTooMany published e = AreTooMany published (header_in e.event) e.reading

-- ---- a history that is as it is due

-- the ledger of the chain in the beginning
pub record IsUnasked (genesis : GenesisState) (chain : ℕ) (ledger : Ledger) : Type 0 where
  pub of : ledger.genesis ≡ genesis
  pub number : ledger.chain ≡ chain
  pub unasked : ledger.history ≡ []

-- A ledger of the chain of the genesis, whose history is just the list: each reply is the one that is due. What it read of other
-- chains, they published.
pub record HasHistory (genesis : GenesisState) (chain : ℕ) (published : Heights) (list : List Entry) (ledger : Ledger) : Type 0 where
  pub of : ledger.genesis ≡ genesis
  pub number : ledger.chain ≡ chain
  pub kept : entries ledger ≡ list
  pub is : IsLedger ledger
  pub read : All (ReadsPublished published) list

-- It is in the state of the ledger that was stored.
pub record IsChainReplay (genesis : GenesisState) (chain : ℕ) (published : Heights) (list : List Entry) (ledger : Ledger) : Type 0 where
  pub is : HasHistory genesis chain published list ledger
  pub state : (stored : Ledger) → IsLedger stored → stored.genesis ≡ genesis → stored.chain ≡ chain → entries stored ≡ list
      → state_of stored ≡ state_of ledger

-- ---- a history that is not

-- up to a place the ledger's history is as the list says, and the next entry has this event and this answer
pub record AgreesUpTo (genesis : GenesisState) (chain : ℕ) (published : Heights) (list : List Entry) (place : ℕ) (event : Event)
    (stored : Answered) (ledger : Ledger) : Type 0 where
  pub is : HasHistory genesis chain published (take place list) ledger
  pub next : slice_get list place ≡ Some (entry_of event stored)

-- where a ledger of the chain has the stored entry behind these, it read otherwise than at the due one
abbrev pub IsForced : GenesisState → ℕ → Heights → List Entry → Event → Answered → Answered → Type 0
IsForced genesis chain published front event due stored = (ledger : Ledger)
    → HasHistory genesis chain published (front ++ entry_of event stored ∷ []) ledger → due.reading ≢ stored.reading

-- A ledger of the chain, whose history is as the list says up to a place, stops there. It answered otherwise and kept that; or no
-- ledger read so; or the event is for another chain.
abbrev pub DiffersBy : GenesisState → ℕ → Heights → List Entry → ChainDifference → Type 0
DiffersBy genesis chain published list (At place due stored) =
    (event : Event) × (mid : Ledger) × (new : Ledger) × AgreesUpTo genesis chain published list place event stored mid
    × HasHistory genesis chain published (take place list ++ entry_of event due ∷ []) new × (due ≢ stored)
    × IsForced genesis chain published (take place list) event due stored
DiffersBy genesis chain published list (NotPublished place stored) =
    (event : Event) × (mid : Ledger) × AgreesUpTo genesis chain published list place event stored mid
    × ReadsTooMany published (entry_of event stored)
DiffersBy genesis chain published list (OtherChain place stored) =
    (event : Event) × (mid : Ledger) × AgreesUpTo genesis chain published list place event stored mid × (chain_of event ≢ chain)
DiffersBy genesis chain published list NoMemory = ⊤
DiffersBy genesis chain published list NoGenesis = ⊥

-- ---- one entry

-- The ledger has one entry more, as it is due, and what that read was published.
pub record AddsRead (published : Heights) (old : Ledger) (e : Entry) (new : Ledger) : Type 0 where
  pub of : new.genesis ≡ old.genesis
  pub number : new.chain ≡ old.chain
  pub kept : entries new ≡ entries old ++ e ∷ []
  pub is : IsLedger new
  pub read : ReadsPublished published e

-- why a ledger doesn't take an entry that is stored at this place, and the ledger then
abbrev pub StopsAtEntry : Heights → Ledger → ℕ → Entry → ChainDifference → Ledger → Type 0
StopsAtEntry published old here entry (At place due stored) new =
    (place ≡ here) × (entry ≡ entry_of entry.event stored) × AddsRead published old (entry_of entry.event due) new × (due ≢ stored)
StopsAtEntry published old here entry (NotPublished place stored) new =
    (place ≡ here) × (entry ≡ entry_of entry.event stored) × ReadsTooMany published entry
StopsAtEntry published old here entry (OtherChain place stored) new =
    (place ≡ here) × (entry ≡ entry_of entry.event stored) × (chain_of entry.event ≢ old.chain)
StopsAtEntry published old here entry NoMemory new = ⊤
StopsAtEntry published old here entry NoGenesis new = ⊥
