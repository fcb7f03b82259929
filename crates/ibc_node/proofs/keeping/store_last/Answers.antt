use Rattle.ibc_node.proofs.KeptEntries.{stores_last}
use Rattle.ibc_node.proofs.keeping.store_last.Goals as goal

pub returns-in-Ok-clause-stored : goal.returns-in-Ok-clause-stored
returns-in-Ok-clause-stored c =
    stores_last c.args.world.now c.args.chain c.in-Some.ledger.now.ledger c.history.result.now c.in-Some-last_in.entry.now c.in-Ok.stored c.in-Some.ensures c.history.ensures c.in-Some-last_in.ensures c.in-Ok.ensures.ok
