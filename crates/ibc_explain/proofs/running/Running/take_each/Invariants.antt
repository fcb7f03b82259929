-- The steps so far are taken, and the others are left.
use Rattle.std.proofs.Common.{◌≡◌, Some, length, map}
use Rattle.std.specs.Vec.Iter.{into_iter_items, into_iter_len}
use Rattle.ibc_script_cli.specs.Runs.{Reached}
use Rattle.ibc_script_cli.specs.Runs.Act.{Take}
use Rattle.ibc_script_worlds.specs.WorldChains.{world_chains}
use Rattle.ibc_explain.proofs.running.Running.take_each.Given as goal

abbrev pub invariant-loop-step : goal.invariant-loop-step
invariant-loop-step l = record {
  counted : into_iter_len l.step-iterator ≡ length (into_iter_items l.step-iterator);
  ran : Reached world_chains l.runner.names.now (map Take l.fn.steps.items) l.fn.self.chains (Some l.fn.self.text.items)
      (map Take (into_iter_items l.step-iterator)) l.self.chains (Some l.self.text.items);
}
