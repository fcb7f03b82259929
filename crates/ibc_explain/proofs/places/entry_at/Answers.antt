-- The entry that the ledger of the place has there.
use Rattle.ibc_explain.proofs.LinesOfEntries.{entry_found, no_entry}
use Rattle.ibc_explain.proofs.places.entry_at.Goals as goal

pub returns-in-Some : goal.returns-in-Some
returns-in-Some c =
    entry_found c.args.world.now.ledgers c.args.place c.in-Some.ledger.now.ledger c.history.result.now _ c.in-Some.ensures c.history.ensures c.entry_in.ensures

pub returns-in-None : goal.returns-in-None
returns-in-None c = no_entry c.args.world.now.ledgers c.args.place c.in-None.ensures
