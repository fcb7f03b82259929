use Rattle.std.proofs.Common.{◌≡◌, ◌++◌, drop}
use Rattle.ibc_forest.specs.NodeLevels.{rows_of}
use Rattle.ibc_forest.specs.Replacements.{nodes_at}
use Rattle.ibc_forest.proofs.replacing.noted_path.Given as goal

abbrev pub invariant-loop-level : goal.invariant-loop-level
invariant-loop-level l = l.nodes.items ++ nodes_at (rows_of (drop l.level l.rows)) l.place ≡ nodes_at (rows_of l.rows) l.index
