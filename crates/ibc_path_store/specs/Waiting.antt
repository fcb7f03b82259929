-- Pairs that wait behind others to be put in their places.
use Rattle.std.specs.Prelude.{◌≡◌, ℕ, ◌+◌, ◌-◌, ◌*◌, ◌≤◌, ◌<◌, Bool, true, false, not, cond, nat_lt, [], ◌∷◌, ◌++◌, length, take, drop, slice_set, slice_index_or, IsTrue, Some, None}
use Rattle.std.specs.List.{insert, remove}
use Rattle.std.specs.FinMap.{is_sorted}
use Rattle.ibc_ids.specs.Texts.{Text, text_cmp}
use Rattle.ibc_ids.specs.Maps.{at, with, without}
use Rattle.ibc_merkle.specs.Tree.{Pairs}
use Rattle.ibc_merkle.specs.Proofs.{is_below}
use Rattle.ibc_forest.specs.Leaves.{from_key}
use Rattle.ibc_path_store.specs.GapChanges.{IsReplaced}

-- the first pairs whose keys are below this one
abbrev pub up_to_key : Text → Pairs → Pairs
up_to_key key [] = []
up_to_key key (pair ∷ pairs) = elim (is_below pair.0 key) [ true ↦ pair ∷ up_to_key key pairs | false ↦ [] ]

-- the pairs with those that wait in their places
abbrev pub merged : Pairs → Pairs → Pairs
merged pairs [] = pairs
merged pairs (next ∷ waiting) = up_to_key next.0 pairs ++ next ∷ merged (from_key next.0 pairs) waiting

-- whether the first pair that waits comes before those in their places
abbrev pub waits_first : Pairs → Pairs → Bool
waits_first pairs [] = false
waits_first [] (next ∷ waiting) = true
waits_first (pair ∷ pairs) (next ∷ waiting) = not (is_below pair.0 next.0)

-- the same where so many first ones are in their places and the others wait
abbrev pub settled_pairs : ℕ → Pairs → Pairs
settled_pairs settled items = merged (take settled items) (drop settled items)

-- so few wait of all: their square is below four times one more than the number of all, so they are at most twice its root, rounded up
abbrev pub AreFew : ℕ → ℕ → Type 0
AreFew waiting pairs = waiting * waiting < 4 * (pairs + 1)

-- the pairs in their places are sorted, so are those that wait, and so are all of them
pub record AreRows (settled : ℕ) (items : Pairs) : Type 0 where
  pub within : settled ≤ length items
  pub placed : IsTrue (is_sorted text_cmp (take settled items))
  pub waiting : IsTrue (is_sorted text_cmp (drop settled items))
  pub sorted : IsTrue (is_sorted text_cmp (settled_pairs settled items))

-- how many are in their places without the one of a row
abbrev pub settled_without : ℕ → ℕ → ℕ
settled_without settled row = cond (nat_lt row settled) (settled - 1) settled

-- the pair of a key stands in a row, and at a place among all pairs in the order of their keys
pub record StandsAt (settled : ℕ) (items : Pairs) (key : Text) (row index : ℕ) : Type 0 where
  pub there : row < length items
  pub found : (d : Text × Text) → at text_cmp key (settled_pairs settled items) ≡ Some (slice_index_or items row d).1
  pub set : (value : Text) → settled_pairs settled (slice_set items row (key, value)) ≡ with text_cmp key value (settled_pairs settled items)
  pub set_rows : (value : Text) → AreRows settled (slice_set items row (key, value))
  pub set_replaced : (value : Text) → IsReplaced (settled_pairs settled items) (settled_pairs settled (slice_set items row (key, value))) index 1 1
  pub removed : settled_pairs (settled_without settled row) (remove items row) ≡ without text_cmp key (settled_pairs settled items)
  pub removed_rows : AreRows (settled_without settled row) (remove items row)
  pub removed_replaced : IsReplaced (settled_pairs settled items) (settled_pairs (settled_without settled row) (remove items row)) index 1 0

-- a key has no pair, and one would stand in a row that waits, and at a place among all pairs
pub record FitsAt (settled : ℕ) (items : Pairs) (key : Text) (row index : ℕ) : Type 0 where
  pub there : row ≤ length items
  pub none : at text_cmp key (settled_pairs settled items) ≡ None
  pub without_it : settled_pairs settled items ≡ without text_cmp key (settled_pairs settled items)
  pub inserted : (value : Text) → settled_pairs settled (insert items row (key, value)) ≡ with text_cmp key value (settled_pairs settled items)
  pub inserted_rows : (value : Text) → AreRows settled (insert items row (key, value))
  pub inserted_replaced : (value : Text) → IsReplaced (settled_pairs settled items) (settled_pairs settled (insert items row (key, value))) index 0 1

-- of the first pairs so many in their places with as many that wait, and behind them the rest
abbrev pub turned_pairs : Pairs → ℕ → ℕ → Pairs
turned_pairs items settled waiting = settled_pairs settled (take (settled + waiting) items) ++ drop (settled + waiting) items
