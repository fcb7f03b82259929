-- It is a run of the script, whose names stay the runner's.
use Rattle.std.proofs.Common.{ℕ, ap}
use Rattle.std.specs.Global.{Vec}
use Rattle.ibc_explain.proofs.RunsOfScripts.{is_run}
use Rattle.ibc_explain.proofs.running.run_on.Goals as goal

pub returns-in-Ok-clause-run : goal.returns-in-Ok-clause-run
returns-in-Ok-clause-run c =
    is_run c.args.script c.args.chains c.new.result c.take_all.new.self.chains c.into_run.result.world c.as_slice.result.now
    c.new-2.result.items c.take_all.new.self.text.items c.into_run.result.text.items c.requires c.new.ensures c.as_slice.ensures.value
    c.new-2.ensures.items c.in-Ok.ensures.ran c.into_run.ensures.world (ap (λ (v : Vec ℕ). v.items) c.into_run.ensures.text)
