-- Rows of leaves, and how pairs differ from others.
use Rattle.std.specs.Prelude.{◌≡◌, ℕ, ◌+◌, ◌-◌, ◌*◌, ◌<◌, ◌≤◌, Bool, true, false, not, ◌&&◌, ◌==◌}
use Rattle.std.specs.Prelude.{List, [], ◌∷◌, length, drop, map, filter, slice_index_or, Result, Ok, Vec}
use Rattle.std.specs.List.{list_any}
use Rattle.std.specs.declared.alloc.Global.{Global}
use Rattle.ibc_ids.specs.Texts.{Text, same_text}
use Rattle.ibc_merkle.specs.Tree.{Pairs, Tree, Leaf, Node}
use Rattle.ibc_merkle.specs.Proofs.{is_below}
use Rattle.ibc_forest.specs.Levels.{leaf_of, tree_at, trees_at}
use Rattle.ibc_forest.specs.NodeLevels.{Stand, leaves_of, IsAsLong}

-- the pair of a leaf
abbrev pub pair_of : Tree → Text × Text
pair_of (Leaf key value) = (key, value)
pair_of (Node left right) = ([], [])

abbrev pub pair_at : List Tree → ℕ → Text × Text
pair_at trees node = pair_of (tree_at trees node)

abbrev pub row_pairs : List Tree → List ℕ → Pairs
row_pairs trees row = map pair_of (trees_at trees row)

-- the nodes of a row are leaves
abbrev pub AreLeaves : List Tree → List ℕ → Type 0
AreLeaves trees row = Stand trees row × (trees_at trees row ≡ map leaf_of (row_pairs trees row))

-- the same key and the same value
abbrev pub same_pair : Text × Text → Text × Text → Bool
same_pair a b = same_text a.0 b.0 && same_text a.1 b.1

-- the sorted pairs from the first on whose key isn't below this one
abbrev pub from_key : Text → Pairs → Pairs
from_key key [] = []
from_key key (pair ∷ pairs) = elim (is_below pair.0 key) [ true ↦ from_key key pairs | false ↦ pair ∷ pairs ]

-- the pairs behind the first one, if that has the key
abbrev pub behind_key : Text → Pairs → Pairs
behind_key key [] = []
behind_key key (pair ∷ pairs) = elim (same_text pair.0 key) [ true ↦ pairs | false ↦ pair ∷ pairs ]

-- whether the first pair is this one
abbrev pub begins_with : Text × Text → Pairs → Bool
begins_with pair [] = false
begins_with pair (first ∷ pairs) = same_pair first pair

-- whether a key is below that of the first pair, or there is none
abbrev pub is_in_front : Text → Pairs → Bool
is_in_front key [] = true
is_in_front key (first ∷ pairs) = is_below key first.0

-- 0 if the first pair is this one, and else 1
abbrev pub is_new : Text × Text → Pairs → ℕ
is_new pair pairs = elim (begins_with pair pairs) [ true ↦ 0 | false ↦ 1 ]

-- whether a pair is among pairs, with its value
abbrev pub is_among : Pairs → Text × Text → Bool
is_among pairs pair = list_any (λ (other : Text × Text). same_pair other pair) pairs

-- how many of the second pairs have no equal one among the first
unfoldable pub count_new : Pairs → Pairs → ℕ
count_new last pairs = length (filter (λ (pair : Text × Text). not (is_among last pair)) pairs)

abbrev pub keys : Pairs → List Text
keys pairs = map (λ (pair : Text × Text). pair.0) pairs

-- 0 for the same number, and else 1
unfoldable pub differ_count : ℕ → ℕ → ℕ
differ_count number other = elim (number == other) [ true ↦ 0 | false ↦ 1 ]

-- at how many places the first row has another number than the second
abbrev pub differing_count : List ℕ → List ℕ → ℕ
differing_count [] other = 0
differing_count (number ∷ row) [] = 1 + differing_count row []
differing_count (number ∷ row) (old ∷ other) = differ_count number old + differing_count row other

-- the pairs of a tree, by its rows
abbrev pub tree_pairs : List Tree → List (Vec ℕ Global) → Pairs
tree_pairs trees rows = row_pairs trees (leaves_of rows)

-- a leaf is that of the pair at a place
abbrev pub IsLeafAt : List Tree → Pairs → ℕ → ℕ → Type 0
IsLeafAt trees pairs index leaf = tree_at trees leaf ≡ leaf_of (slice_index_or pairs index ([], []))

-- from the place on stand those of the pairs, from another place on, whose keys aren't below this one
abbrev pub IsPlaceOfKey : Pairs → ℕ → Text → ℕ → Type 0
IsPlaceOfKey pairs from key place = drop place pairs ≡ from_key key (drop from pairs)

-- from the place on stand the pairs of another place on, without the first one if that has this key
abbrev pub IsPlaceBehind : Pairs → ℕ → Text → ℕ → Type 0
IsPlaceBehind pairs at key place = drop place pairs ≡ behind_key key (drop at pairs)

-- where the pair stands at a place of a row of leaves, the answer is the leaf there
abbrev pub KeepsLeaf : {E : Type 0} → List Tree → List ℕ → ℕ → Text × Text → Result ℕ E → Type 0
KeepsLeaf trees row at pair result = is_new pair (drop at (row_pairs trees row)) ≡ 0 → result ≡ Ok (slice_index_or row at 0)

-- how many texts are hashed at most above the leaves at which a row differs
abbrev pub texts_above : List (Vec ℕ Global) → List ℕ → ℕ
texts_above rows row = differing_count row (leaves_of rows) * (length rows - 1)

-- the row is as long as that of the leaves, and above those at which it differs fewer texts are hashed than it has leaves
abbrev pub DiffersAtFew : List (Vec ℕ Global) → List ℕ → Type 0
DiffersAtFew rows row = IsAsLong rows row × (texts_above rows row < length row)

-- a row as long as that of the leaves has no more leaves than texts may be hashed above those that differ
abbrev pub DiffersAtMany : List (Vec ℕ Global) → List ℕ → Type 0
DiffersAtMany rows row = IsAsLong rows row → length row ≤ texts_above rows row
