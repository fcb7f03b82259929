use Rattle.std.proofs.Common.{◌≡◌, length, map}
use Rattle.std.specs.Vec.Iter.{into_iter_items, into_iter_len}
use Rattle.ibc_script_cli.specs.Runs.{Reached}
use Rattle.ibc_script_cli.specs.Runs.Act.{Send}
use Rattle.ibc_script_cli.proofs.runner.Runner.send_each.Given as goal

abbrev pub invariant-loop-message : goal.invariant-loop-message
invariant-loop-message g l = record {
  counted : into_iter_len l.message-iterator ≡ length (into_iter_items l.message-iterator);
  ran : Reached g.C.Chains.known l.self.names.now (map (Send l.on) l.fn.messages.items) l.fn.chains (g.W.Write.contents l.fn.output)
      (map (Send l.on) (into_iter_items l.message-iterator)) l.chains (g.W.Write.contents l.output);
}
