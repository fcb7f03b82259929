-- The entry that was found.
use Rattle.ibc_explain.proofs.LinesOfEntries.{entry_behind, no_entry_behind}
use Rattle.ibc_explain.proofs.places.entry_in.Goals as goal

pub returns-in-Some : goal.returns-in-Some
returns-in-Some c = entry_behind c.args.history.now c.args.index c.get.result c.in-Some.stamped c.in-Some.is c.get.ensures.lookup

pub returns-in-None : goal.returns-in-None
returns-in-None c = no_entry_behind c.args.history.now c.args.index c.get.result c.in-None.is c.get.ensures.lookup
