-- The step is taken.
use Rattle.ibc_explain.proofs.running.Running.take.Goals as goal

pub returns-clause-ran : goal.returns-clause-ran
returns-clause-ran c = c.in_ok-take.ensures.ran
