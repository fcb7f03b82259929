use Rattle.std.proofs.Common.{◌≡◌, ◌++◌, take, drop}
use Rattle.ibc_forest.specs.NodeLevels.{rows_of, with_replaced}
use Rattle.ibc_forest.proofs.ascent.put_path.Given as goal

abbrev pub invariant-loop-level : goal.invariant-loop-level
invariant-loop-level l =
    rows_of (take l.level l.rows) ++ with_replaced (rows_of (drop l.level l.rows)) l.place (drop l.level l.path) ≡ with_replaced (rows_of l.initial.rows) l.index l.path
