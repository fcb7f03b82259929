-- What is said of the value is said of its text.
use Rattle.serde_json.specs.View.{view}
use Rattle.ibc_lab.proofs.Verdicts.{verdict_of_text}
use Rattle.ibc_lab.proofs.checking.check_json.Goals as goal

pub returns : goal.returns
returns c =
    verdict_of_text c.args.bytes.now (view c.args.value) c.requires.few c.requires.utf8 c.requires.read c.check_value-verdict.result
    c.check_value-verdict.ensures
