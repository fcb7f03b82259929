-- What a commit keeps, and what changes of leaves do one after another.
use Rattle.std.proofs.Common.{◌≡◌, ℕ, ◌<◌, List, [], ◌∷◌, length, sym, ap, ◌∙◌, arith}
use Rattle.std.proofs.lemmas.List.{length-map}
use Rattle.ibc_merkle.specs.Tree.{Pairs, Tree, tree, tree_root, root, leaves}
use Rattle.ibc_merkle.proofs.Trees.{leaves-tree}
use Rattle.ibc_forest.specs.Levels.{tree_over, tree_at, trees_at}
use Rattle.ibc_forest.specs.Heights.{pairs_of, IsTreeOver}
use Rattle.ibc_forest.specs.NodeLevels.{IsPyramid, first_row}
use Rattle.ibc_forest.specs.Leaves.{row_pairs}
use Rattle.ibc_forest.specs.Forest.{IsWorking}
use Rattle.ibc_forest.proofs.Levels.{over-leaves}
use Rattle.ibc_forest.proofs.Climbing.{length-trees_at}

row_some : (trees : List Tree) (rows : List (List ℕ)) → IsPyramid trees rows → 0 < length (first_row rows)
row_some trees [] pyramid = absurd (omega arith)
row_some trees (row ∷ []) pyramid = let one : length row ≡ 1 = pyramid.1 in omega arith
row_some trees (row ∷ above ∷ rows) pyramid = let more = pyramid.1.0 in omega arith

pub record Committed (trees : List Tree) (node count : ℕ) (pairs : Pairs) : Type 0 where
  pub is_tree : IsTreeOver trees node count
  pub same : pairs_of trees node ≡ pairs
  pub digest : root (tree_at trees node) ≡ tree_root pairs

pub committed : (trees : List Tree) (rows : List (List ℕ)) (node count : ℕ) → IsWorking trees rows → tree_at trees node ≡ tree_over (trees_at trees (first_row rows)) → node < length trees
    → count ≡ length (first_row rows) → Committed trees node count (row_pairs trees (first_row rows))
committed trees rows node count working over_row there counted =
    let row : List ℕ = first_row rows in
    let pairs : Pairs = row_pairs trees row in
    let some = row_some trees rows working.0 in
    let lengths : length pairs ≡ length row = length-map (trees_at trees row) _ ∙ length-trees_at trees row in
    let is : tree_at trees node ≡ tree pairs = over_row ∙ ap tree_over working.1 ∙ over-leaves pairs in
    let same : pairs_of trees node ≡ pairs = ap leaves is ∙ leaves-tree pairs (omega arith) in
    record {
      is_tree = record { there = there; some = omega arith; counted = ap length same ∙ lengths ∙ sym counted; is = is ∙ ap tree (sym same) };
      same = same;
      digest = ap root is;
    }
