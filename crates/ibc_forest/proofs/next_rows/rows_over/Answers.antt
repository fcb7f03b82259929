-- What stands over the first leaves is known.
use Rattle.std.proofs.Common.{length, sym, ap}
use Rattle.ibc_forest.specs.NodeLevels.{rows_of, first_row}
use Rattle.ibc_forest.proofs.KnownRows.{known_last}
use Rattle.ibc_forest.proofs.next_rows.rows_over.Goals as goal

pub raised-requires-clause-before : goal.raised-requires-clause-before
raised-requires-clause-before c = known_last c.args.arena.now.trees (rows_of c.args.rows.now) c.requires.last

pub raised-requires-clause-there : goal.raised-requires-clause-there
raised-requires-clause-there c =
    (c.front_of-front.ensures (first_row (rows_of c.args.rows.now)) c.args.row.items (ap length (sym c.first_of.ensures)) c.requires.gaps).0

pub raised-requires-clause-front : goal.raised-requires-clause-front
raised-requires-clause-front c =
    (c.front_of-front.ensures (first_row (rows_of c.args.rows.now)) c.args.row.items (ap length (sym c.first_of.ensures)) c.requires.gaps).1
