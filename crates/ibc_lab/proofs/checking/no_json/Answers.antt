use Rattle.ibc_lab.proofs.Verdicts.{verdict_no_json}
use Rattle.ibc_lab.proofs.checking.no_json.Goals as goal

pub returns : goal.returns
returns c = verdict_no_json c.args._bytes.now c.in_ok-faults.faults c.requires c.in_ok-faults.ensures
