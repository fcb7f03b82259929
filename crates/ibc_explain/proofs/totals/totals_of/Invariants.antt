-- What is told so far is what the channels have.
use Rattle.std.proofs.Common.{All}
use Rattle.ibc_explain.specs.Balances.{IsTotalOf}
use Rattle.ibc_explain.proofs.totals.totals_of.Given as goal

abbrev pub invariant-loop-sent : goal.invariant-loop-sent
invariant-loop-sent l = All (IsTotalOf l.run.world) l.list.items
