-- The entry is the one at the place.
use Rattle.std.proofs.Common.{sym}
use Rattle.ibc_explain.proofs.LinesOfEntries.{line_of_entry}
use Rattle.ibc_explain.proofs.places.Placing.is_line_of.Goals as goal

pub returns-in-Some : goal.returns-in-Some
returns-in-Some c =
    line_of_entry c.args.self.now.names.now c.args.self.now.world.now.ledgers c.args.line.now c.args.place c.name-name.result.now c.in-Some.entry.now c.is_line.result
    (sym c.in-Some.ensures) c.name-name.ensures c.is_line.ensures
