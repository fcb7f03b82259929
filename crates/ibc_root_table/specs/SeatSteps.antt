-- What each step tells its seat.
use Rattle.std.specs.Prelude.{ℕ, List, ◌≡◌, ◌+◌, ◌<◌, ◌≤◌, [], ◌∷◌, ◌++◌, slice_index, slice_get, Some}
use mathlib.Core.List.{IsPrefix}
use Rattle.atomic_table.specs.Table.{Me, Step}
use Rattle.ibc_ids.specs.declared.publication.Publication.{Publication}
use Rattle.ibc_ids.specs.Publications.{published_by, height_of}
use Rattle.ibc_root_table.specs.declared.knowledge.TableKnowledge.{TableKnowledge}
use Rattle.ibc_root_table.specs.Publications.{IsRoot, IsWithin, row_words, publication_of_row}
use Rattle.ibc_root_table.specs.Layout.{place}
use Rattle.ibc_root_table.specs.Rule.{Owns}
use Rattle.ibc_root_table.specs.Passes.{Publishes}

abbrev pub SeatKnowledge : Type 0
SeatKnowledge = Me (Unit {0}) TableKnowledge

-- the seat had seen all publications of the chains that it writes for
abbrev pub NoneOfOwn : TableKnowledge → List Publication → Type 0
NoneOfOwn v more = (c : ℕ) → Owns c v → height_of c more ≡ height_of c v.seen

-- the seat's list is a longer one, and all else is as it was
abbrev pub SeatSeesMore : SeatKnowledge → SeatKnowledge → Type 0
SeatSeesMore m m' =
    (m' ≡ (record m.0 { seen = m'.0.seen }, m.1)) × IsPrefix m.0.seen m'.0.seen × IsPrefix m.0.heard m'.0.seen × IsWithin m.0.shape m'.0.seen × NoneOfOwn m.0 m'.0.seen

-- no floor that is known falls
abbrev pub FloorsRise : SeatKnowledge → SeatKnowledge → Type 0
FloorsRise m m' = (c : ℕ) → c < m.0.shape.chains → slice_index m.0.floors c ≤ slice_index m'.0.floors c

-- with n publications of the chain, the floor lies between n less the window and n + 1 less the window
abbrev pub IsFloor : ℕ → ℕ → ℕ → Type 0
IsFloor window n floor = (n ≤ floor + window) × (0 < floor → floor + window ≤ n + 1)

-- the floor of a chain was loaded: all publications so far are seen, and it is no lower than the one that was known
abbrev pub FloorLooked : ℕ → SeatKnowledge → ℕ → SeatKnowledge → Type 0
FloorLooked c m found m' = SeatSeesMore m m' × (slice_index m.0.floors c ≤ found) × IsFloor m.0.shape.window (height_of c m'.0.seen) found

abbrev pub LookedFloor : Step (Unit {0}) → SeatKnowledge → ℕ → SeatKnowledge → Type 0
LookedFloor st m found m' = (c : ℕ) → c < m.0.shape.chains → st.word ≡ m.0.shape.chains + c → FloorLooked c m found m'

-- the floor of the seat's first chain was raised
abbrev pub RaisedFloor : Step (Unit {0}) → SeatKnowledge → ℕ → SeatKnowledge → Type 0
RaisedFloor st m found m' = (m' ≡ (record m.0 { floors = m'.0.floors }, m.1)) × (slice_index m'.0.floors m.0.first_own ≡ st.first)

-- a published word was loaded: all publications so far are seen, and the word counts the chain's
abbrev pub Looked : Step (Unit {0}) → SeatKnowledge → ℕ → SeatKnowledge → Type 0
Looked st m found m' = SeatSeesMore m m' × (found ≡ height_of st.word m'.0.seen)

-- an own published word was loaded, which counts what the seat has seen
abbrev pub Counted : Step (Unit {0}) → SeatKnowledge → ℕ → SeatKnowledge → Type 0
Counted st m found m' = (m' ≡ m) × (found ≡ height_of st.word m.0.seen)

-- a word of a row that was seen was loaded: it is right, or the floor that is known now has reached the row
abbrev pub Read : Step (Unit {0}) → SeatKnowledge → ℕ → SeatKnowledge → Type 0
Read st m found m' =
    (m' ≡ (record m.0 { floors = m'.0.floors }, m.1))
    × FloorsRise m m'
    × ((c k part : ℕ) (p : Publication) → slice_get (published_by c m.0.seen) k ≡ Some p → part < 5 → st.word ≡ place m.0.shape c k part
    → (slice_index m'.0.floors c ≤ k → found ≡ slice_index (row_words p) part) × IsRoot p.root × (p.chain ≡ c))

-- a word of the next row was stored
abbrev pub Drafted : Step (Unit {0}) → SeatKnowledge → ℕ → SeatKnowledge → Type 0
Drafted st m found m' = m' ≡ (record m.0 { draft = m.0.draft ++ st.first ∷ [] }, m.1)

-- the published word was raised: the row that was stored is the last publication
abbrev pub Raised : Step (Unit {0}) → SeatKnowledge → ℕ → SeatKnowledge → Type 0
Raised st m found m' =
    (m' ≡ (record m.0 { seen = m'.0.seen; draft = [] }, m.1))
    × Publishes m.0.seen (publication_of_row m.0.first_own m.0.draft) m'.0.seen
    × (found ≡ height_of m.0.first_own m'.0.seen)
    × IsWithin m.0.shape m'.0.seen

-- what another seat told, which is more than the seat had seen, is now seen
abbrev pub Adopted : Step (Unit {0}) → SeatKnowledge → ℕ → SeatKnowledge → Type 0
Adopted st m found m' = (m' ≡ (record m.0 { seen = m.0.heard }, m.1)) × IsWithin m.0.shape m.0.heard × NoneOfOwn m.0 m.0.heard
