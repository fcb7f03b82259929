use Rattle.ibc_lab.proofs.Verdicts.{verdict_too_long}
use Rattle.ibc_lab.proofs.checking.too_long.Goals as goal

pub returns : goal.returns
returns c = verdict_too_long c.args._bytes.now c.in_ok-faults.faults c.requires c.in_ok-faults.ensures
