-- The steps are taken, and all is told.
use Rattle.ibc_explain.proofs.RunsOfScripts.{all_done}
use Rattle.ibc_explain.proofs.running.Running.take_all.Goals as goal

pub returns-clause-ran : goal.returns-clause-ran
returns-clause-ran c =
    all_done c.args.names.now c.new-runner.result.names.now c.args.steps.items c.new-no_step.result.items c.args.self.now.chains c.take_each.new.self.chains c.run.new.chains
    c.args.self.now.text.items c.take_each.new.self.text.items c.run.new.output.items c.new-runner.ensures c.new-no_step.ensures.items
    c.in_ok-take_each.ensures.ran c.in_ok-run.ensures.ran
