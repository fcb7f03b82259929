use Rattle.std.proofs.Common.{◌-◌}
use Rattle.ibc_script_cli.specs.Runs.{Reached, relay_acts}
use Rattle.ibc_script_cli.proofs.runner.Runner.relay.Given as goal

abbrev pub invariant-loop-turn : goal.invariant-loop-turn
invariant-loop-turn g l =
    Reached g.C.Chains.known l.self.names.now (relay_acts l.first l.second l.turns) l.fn.chains (g.W.Write.contents l.fn.output)
    (relay_acts l.first l.second (l.turns - l._turn)) l.chains (g.W.Write.contents l.output)
