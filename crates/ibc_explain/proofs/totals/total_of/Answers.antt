-- The totals are told of the channel that has them.
use Rattle.ibc_explain.proofs.totals.total_of.Goals as goal

pub returns : goal.returns
returns c = record { told = c.in_ok-totals.ensures.ok; balanced = c.in_ok-totals.ensures.balanced }
