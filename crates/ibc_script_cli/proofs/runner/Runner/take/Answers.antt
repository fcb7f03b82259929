use Rattle.std.proofs.Common.{[], ◌∷◌, subst, sym}
use Rattle.ibc_script_cli.specs.Runs.{Runs}
use Rattle.ibc_script_cli.specs.Runs.Act.{Take}
use Rattle.ibc_script.specs.declared.script.Step.{Step}
use Rattle.ibc_script_cli.proofs.Turns.{taken_whole}
use Rattle.ibc_script_cli.proofs.runner.Runner.take.Goals as goal

pub returns-in-Root-clause-ran : goal.returns-in-Root-clause-ran
returns-in-Root-clause-ran g c =
    subst (λ (s : Step). Runs g.C.Chains.known c.args.self.now.names.now (Take s ∷ []) c.print_root.result c.args.chains.now (g.W.Write.contents c.args.output.now) c.args.chains.now (g.W.Write.contents c.print_root.new.output)) (sym c.in-Root.is)
    (c.print_root.ensures.ran)

pub returns-in-Prove-clause-ran : goal.returns-in-Prove-clause-ran
returns-in-Prove-clause-ran g c =
    subst (λ (s : Step). Runs g.C.Chains.known c.args.self.now.names.now (Take s ∷ []) c.print_proof.result c.args.chains.now (g.W.Write.contents c.args.output.now) c.args.chains.now (g.W.Write.contents c.print_proof.new.output)) (sym c.in-Prove.is)
    (c.print_proof.ensures.ran)

pub returns-in-Totals-clause-ran : goal.returns-in-Totals-clause-ran
returns-in-Totals-clause-ran g c =
    subst (λ (s : Step). Runs g.C.Chains.known c.args.self.now.names.now (Take s ∷ []) c.print_totals.result c.args.chains.now (g.W.Write.contents c.args.output.now) c.args.chains.now (g.W.Write.contents c.print_totals.new.output)) (sym c.in-Totals.is)
    (c.print_totals.ensures.ran)

pub returns-in_default : goal.returns-in_default
returns-in_default g c =
    record {
      ran = taken_whole g.C.Chains.known c.args.self.now.names.now c.args.step c.act.result c.args.chains.now c.act.new.chains (g.W.Write.contents c.args.output.now) (g.W.Write.contents c.act.new.output) c.in_default.not-Root c.in_default.not-Prove c.in_default.not-Totals c.act.ensures.ran;
      faults = c.act.ensures.faults;
    }
