use Rattle.serde_json.specs.View.{view}
use Rattle.ibc_lab.proofs.Verdicts.{verdict_unread}
use Rattle.ibc_lab.proofs.checking.unread.Goals as goal

pub returns : goal.returns
returns c = verdict_unread (view c.args.value.now) c.in_ok-faults.faults c.in_ok-faults.ensures
