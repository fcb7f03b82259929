-- How many entries of each chain have their lines, while lines are placed.
use Rattle.std.specs.Prelude.{◌≡◌, ℕ, ◌+◌, List, Option, None, Some, slice_get, slice_set, unwrap_or}
use Rattle.ibc_machine.specs.ledger.Ledgers.{Ledger}
use Rattle.ibc_explain.specs.EntryLines.{entries_of}
use Rattle.ibc_explain.specs.declared.places.EntryPlace.{EntryPlace}

-- a chain's next entry is the one behind those that are counted
abbrev pub IsNext : List ℕ → EntryPlace → Type 0
IsNext counts place = slice_get counts place.chain ≡ Some place.index

-- the entry of a line is the next one of its chain, and is counted
abbrev pub GoesOn : List ℕ → Option EntryPlace → List ℕ → Type 0
GoesOn old None new = new ≡ old
GoesOn old (Some place) new = IsNext old place × (new ≡ slice_set old place.chain (place.index + 1))

-- of each chain all entries are counted
abbrev pub AllAreTold : List Ledger → List ℕ → Type 0
AllAreTold ledgers counts = (chain : ℕ) → unwrap_or (slice_get counts chain) 0 ≡ entries_of ledgers chain
