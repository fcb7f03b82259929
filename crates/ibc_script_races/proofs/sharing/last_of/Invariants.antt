use Rattle.ibc_script_races.proofs.Receipts.{AreOthers}
use Rattle.ibc_script_races.proofs.sharing.last_of.Given as goal

abbrev pub invariant-loop-behind : goal.invariant-loop-behind
invariant-loop-behind g l = AreOthers l.fn.chain l.fn.receipts l.behind
