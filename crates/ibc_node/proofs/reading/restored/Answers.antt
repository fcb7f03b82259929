-- What is refused is of no entry, or memory ran out.
use Rattle.std.proofs.Common.{Err, ap}
use Rattle.ibc_node.proofs.Reasons.{of_bytes}
use Rattle.ibc_node.proofs.reading.restored.Goals as goal

pub returns-in-Err-clause-faults : goal.returns-in-Err-clause-faults
returns-in-Err-clause-faults c = of_bytes c.args.place c.args.stored.now c.in-Err.refusal c.of_refusal.result c.of_refusal.ensures c.in-Err.ensures.errors (λ is. c.in-Err.ensures.bad (ap Err is))
