-- The script was read before it was run.
use Rattle.ibc_script.specs.ScriptValues.{content_of}
use Rattle.ibc_sim.specs.ReadScripts.{ReadsAsScript}
use Rattle.ibc_run_notes.proofs.FirstFindings.{on_ok}
use Rattle.ibc_sim.proofs.running.replay.Goals as goal

pub returns-in-Ok : goal.returns-in-Ok
returns-in-Ok c = on_ok (ReadsAsScript c.args.text.now) c.finding_of.result (content_of c.in_ok-script.script, c.in_ok-script.ensures.script)
