use Rattle.std.proofs.Common.{drop, [], ◌∷◌}
use Rattle.ibc_script_cli.specs.Runs.{Reached}
use Rattle.ibc_script_cli.specs.Runs.Act.{Open}
use Rattle.ibc_script_cli.proofs.runner.Runner.take_turns.Given as goal

abbrev pub invariant-loop-side : goal.invariant-loop-side
invariant-loop-side g l =
    Reached g.C.Chains.known l.self.names.now (Open l.turns l.fn.opening ∷ []) l.fn.chains (g.W.Write.contents l.fn.output)
    (Open (drop l.side-index l.turns) l.opening ∷ []) l.chains (g.W.Write.contents l.output)
