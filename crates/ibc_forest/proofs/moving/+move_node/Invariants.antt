use Rattle.ibc_forest.specs.Levels.{tree_at}
use Rattle.ibc_forest.specs.NodeMoves.{node_count}
use Rattle.ibc_forest.proofs.moving.+move_node.Given as goal

abbrev pub decreases-move_node : goal.decreases-move_node
decreases-move_node l = node_count (tree_at l.old.now l.number)
