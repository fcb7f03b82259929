-- As many as the ledger's history has.
use Rattle.ibc_explain.proofs.LinesOfEntries.{as_many_entries, no_entries}
use Rattle.ibc_explain.proofs.places.entry_count.Goals as goal

pub returns-in-Some : goal.returns-in-Some
returns-in-Some c =
    as_many_entries c.args.world.now.ledgers c.args.chain c.in-Some.ledger.now.ledger c.history.result.now c.in-Some.ensures c.history.ensures

pub returns-in-None : goal.returns-in-None
returns-in-None c = no_entries c.args.world.now.ledgers c.args.chain c.in-None.ensures
