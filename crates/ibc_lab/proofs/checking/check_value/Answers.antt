-- The script that was read is the one that the value is.
use Rattle.serde_json.specs.View.{view}
use Rattle.ibc_script.specs.ScriptValues.{content_of}
use Rattle.ibc_lab.proofs.Verdicts.{script_of_value}
use Rattle.ibc_lab.proofs.checking.check_value.Goals as goal

pub check_genesis-requires : goal.check_genesis-requires
check_genesis-requires c =
    script_of_value c.args.bytes.now (view c.args.value.now) (content_of c.in-Ok.script) c.requires c.in-Ok.ensures.script
