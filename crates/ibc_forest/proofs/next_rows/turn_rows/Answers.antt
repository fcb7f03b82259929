-- No gap, so nothing is new.
use Rattle.ibc_forest.specs.Leaves.{row_pairs}
use Rattle.ibc_forest.specs.NodeLevels.{rows_of, first_row}
use Rattle.ibc_forest.proofs.NoGap.{unchanged_least}
use Rattle.ibc_forest.proofs.next_rows.turn_rows.Goals as goal

pub returns-then-are_empty-clause-least : goal.returns-then-are_empty-clause-least
returns-then-are_empty-clause-least c =
    let last = row_pairs c.args.arena.now.trees (first_row (rows_of c.args.rows.now.items)) in
    unchanged_least last c.args.entries.now c.args.arena.now.steps (c.are_empty.ensures c.if-are_empty.true last c.args.entries.now c.requires.gaps)
