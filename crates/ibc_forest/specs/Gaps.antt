-- Pairs that differ from the last ones in gaps alone, and how their leaves are found.
use Rattle.std.specs.Prelude.{◌≡◌, ℕ, ◌+◌, ◌<◌, ◌≤◌, List, [], ◌∷◌, length, take, drop, map, slice_set, slice_index_or, IsTrue, ⊤}
use Rattle.ibc_merkle.specs.Tree.{Pairs, Tree}
use Rattle.ibc_forest.specs.Leaves.{from_key, is_in_front, row_pairs}
use Rattle.ibc_forest.specs.Levels.{leaf_of, trees_at}
use Rattle.ibc_forest.specs.NodeLevels.{Stand}
use Rattle.ibc_forest.specs.declared.gap.Gap.{Gap}

-- the pairs are the last ones but in the gaps; so it is said of other lists too
abbrev pub DifferIn : {A : Type 0} → List Gap → List A → List A → Type 0
DifferIn [] last pairs = pairs ≡ last
DifferIn (gap ∷ gaps) last pairs =
    (gap.kept + gap.gone ≤ length last) × (gap.kept + gap.come ≤ length pairs) × (take gap.kept pairs ≡ take gap.kept last)
    × DifferIn gaps (drop (gap.kept + gap.gone) last) (drop (gap.kept + gap.come) pairs)

-- the pairs are the last ones but for the one at a place
pub record IsOneOther (index : ℕ) (last pairs : Pairs) : Type 0 where
  pub there : index < length last
  pub here : index < length pairs
  pub front : take index pairs ≡ take index last
  pub same : pairs ≡ slice_set last index (slice_index_or pairs index ([], []))

-- the key of the first pair is found from a place of the last ones on as it is from the first of them on
abbrev pub IsFoundFrom : Pairs → ℕ → Pairs → Type 0
IsFoundFrom last place [] = ⊤
IsFoundFrom last place (pair ∷ pairs) = from_key pair.0 (drop place last) ≡ from_key pair.0 last

-- a row has the leaves of the first pairs
pub record HasFirst (trees : List Tree) (pairs : Pairs) (row : List ℕ) : Type 0 where
  pub leaves : trees_at trees row ≡ map leaf_of (take (length row) pairs)
  pub stand : Stand trees row
  pub within : length row ≤ length pairs

-- the pairs from one place on are found from a place of a row of leaves on
abbrev pub IsFoundIn : List Tree → List ℕ → ℕ → ℕ → Pairs → Type 0
IsFoundIn trees old place from pairs = IsFoundFrom (row_pairs trees old) place (drop from pairs)

-- the next four pairs all stand in front of a place of a row of leaves
abbrev pub FourStandInFront : List Tree → List ℕ → ℕ → List ℕ → Pairs → Type 0
FourStandInFront trees old place row pairs =
    IsTrue (is_in_front (slice_index_or pairs (length row + 3) ([], [])).0 (drop place (row_pairs trees old)))

-- pairs that differ in the gaps alone differ at one place
abbrev pub DifferAtOne : List Gap → ℕ → Type 0
DifferAtOne gaps index = (last pairs : Pairs) → DifferIn gaps last pairs → IsOneOther index last pairs

-- so many first numbers are the same in rows that differ in the gaps alone, the first of which has so many
abbrev pub IsFrontOf : List Gap → ℕ → ℕ → Type 0
IsFrontOf gaps count front =
    (old row : List ℕ) → length old ≡ count → DifferIn gaps old row → (front ≤ length row) × (take front row ≡ take front old)
