-- How many texts a change of an arena hashed.
use Rattle.std.specs.Prelude.{◌≡◌, ℕ, ◌+◌, ◌-◌, ◌*◌, ◌^◌, ◌≤◌, List, length, drop, slice_index_or, Result, IfOk, Vec}
use Rattle.std.specs.declared.alloc.Global.{Global}
use Rattle.ibc_ids.specs.Texts.{Text}
use Rattle.ibc_merkle.specs.Hash.{one_more}
use Rattle.ibc_merkle.specs.Tree.{Pairs}
use Rattle.ibc_forest.specs.Codes.{ArenaModel}
use Rattle.ibc_forest.specs.Counts.{CountsAtLeast, CountsEachNewLeaf}
use Rattle.ibc_forest.specs.Leaves.{count_new, differ_count, is_new, keys, row_pairs, texts_above, tree_pairs}
use Rattle.ibc_forest.specs.NodeLevels.{leaves_of}

-- one for a node that is new
abbrev pub HashesOneIfNew : ArenaModel → ArenaModel → ℕ → Type 0
HashesOneIfNew before after node = length before.trees ≤ node → after.steps ≡ one_more before.steps

-- two at most, and none where the pair stands at a place of a row of leaves
abbrev pub HashesTwoIfNew : List ℕ → ℕ → Text × Text → ArenaModel → ArenaModel → Type 0
HashesTwoIfNew row at pair before after = after.steps ≤ before.steps + 2 * is_new pair (drop at (row_pairs before.trees row))

-- two at least, but where the pair stands at a place of a row of leaves
abbrev pub CountsTwoIfNew : List ℕ → ℕ → Text × Text → ArenaModel → ArenaModel → Type 0
CountsTwoIfNew row at pair before after = CountsAtLeast (2 * is_new pair (drop at (row_pairs before.trees row))) before.steps after.steps

-- two at most for each pair that a row of leaves lacks
abbrev pub HashesNew : List ℕ → Pairs → ArenaModel → ArenaModel → Type 0
HashesNew old pairs before after = after.steps ≤ before.steps + 2 * count_new (row_pairs before.trees old) pairs

-- two at least for each pair that a row of leaves lacks
abbrev pub CountsNew : List ℕ → Pairs → ArenaModel → ArenaModel → Type 0
CountsNew old pairs before after = CountsEachNewLeaf (row_pairs before.trees old) pairs before.steps after.steps

-- two at most for each of the pairs between two places that a row of leaves lacks
abbrev pub HashesNewFrom : List ℕ → Pairs → ℕ → ℕ → ArenaModel → ArenaModel → Type 0
HashesNewFrom old pairs from end before after =
    let last = row_pairs before.trees old in
    after.steps + 2 * count_new last (drop end pairs) ≤ before.steps + 2 * count_new last (drop from pairs)

-- two at least for each of the pairs between two places that a row of leaves lacks
abbrev pub CountsNewFrom : List ℕ → Pairs → ℕ → ℕ → ArenaModel → ArenaModel → Type 0
CountsNewFrom old pairs from end before after =
    let last = row_pairs before.trees old in
    CountsAtLeast (2 * count_new last (drop from pairs)) before.steps (after.steps + 2 * count_new last (drop end pairs))

-- two at most for each new pair, and fewer over them than there are pairs
abbrev pub HashesFew : List (Vec ℕ Global) → Pairs → ArenaModel → ArenaModel → Type 0
HashesFew rows pairs before after = after.steps + 1 ≤ before.steps + 2 * count_new (tree_pairs before.trees rows) pairs + length pairs

-- where the keys stay, two at most for each new pair, and one for each level above it
abbrev pub HashesPathsOnOk : {A E : Type 0} → List (Vec ℕ Global) → Pairs → ArenaModel → ArenaModel → Result A E → Type 0
HashesPathsOnOk rows pairs before after result =
    let last = tree_pairs before.trees rows in
    keys pairs ≡ keys last → (log : ℕ) → length pairs ≤ 2 ^ log → IfOk result (λ _. after.steps ≤ before.steps + count_new last pairs * (2 + log))

-- one at most for each leaf at which a row differs and each row above it
abbrev pub HashesAbove : List (Vec ℕ Global) → List ℕ → ArenaModel → ArenaModel → Type 0
HashesAbove rows row before after = after.steps ≤ before.steps + texts_above rows row

-- one at most for each other leaf and row above it
abbrev pub HashesPaths : {A : Type 0} → List A → List (Vec ℕ Global) → ArenaModel → ArenaModel → Type 0
HashesPaths others rows before after = after.steps ≤ before.steps + length others * (length rows - 1)

-- one at most for each row above a place, and none where the leaf there is the same
abbrev pub HashesPathIfOther : List (Vec ℕ Global) → ℕ → ℕ → ArenaModel → ArenaModel → Type 0
HashesPathIfOther rows index leaf before after =
    after.steps ≤ before.steps + differ_count leaf (slice_index_or (leaves_of rows) index 0) * (length rows - 1)

-- one at most, and none where one more place waits
abbrev pub HashesOneOrWaits : ArenaModel → ArenaModel → List ℕ → List ℕ → Type 0
HashesOneOrWaits before after waiting waiting' = after.steps + length waiting' ≤ before.steps + length waiting + 1

-- one at most for each number that one row has more than another
abbrev pub HashesOneForEach : List ℕ → List ℕ → ArenaModel → ArenaModel → Type 0
HashesOneForEach row longer before after = after.steps + length row ≤ before.steps + length longer
