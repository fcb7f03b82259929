use Rattle.ibc_node.proofs.KeptEntries.{keeps_last}
use Rattle.ibc_node.proofs.keeping.keep_last.Goals as goal

pub returns-clause-kept : goal.returns-clause-kept
returns-clause-kept c = keeps_last c.args.world.now c.args.chain c.args.before.now c.in_ok-stored.stored c.behind-entry.result c.in_ok-stored.ensures.stored c.behind-entry.ensures.bytes c.behind-entry.ensures.due

pub returns-clause-by : goal.returns-clause-by
returns-clause-by c = c.behind-entry.ensures.by

pub returns-clause-faults : goal.returns-clause-faults
returns-clause-faults c = c.behind-entry.ensures.faults
