use Rattle.std.proofs.Common.{◌≡◌, length, map}
use Rattle.std.specs.Vec.Iter.{into_iter_items, into_iter_len}
use Rattle.ibc_script_cli.specs.Runs.{Reached}
use Rattle.ibc_script_cli.specs.Runs.Act.{Take}
use Rattle.ibc_script_cli.proofs.runner.Runner.take_each.Given as goal

abbrev pub invariant-loop-step : goal.invariant-loop-step
invariant-loop-step g l = record {
  counted : into_iter_len l.step-iterator ≡ length (into_iter_items l.step-iterator);
  ran : Reached g.C.Chains.known l.self.names.now (map Take l.fn.steps.items) l.fn.chains (g.W.Write.contents l.fn.output)
      (map Take (into_iter_items l.step-iterator)) l.chains (g.W.Write.contents l.output);
}
