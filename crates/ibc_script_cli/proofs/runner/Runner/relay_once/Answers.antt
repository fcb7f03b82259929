use Rattle.std.proofs.Common.{[], ◌∷◌, None}
use Rattle.ibc_script_cli.proofs.Reaching.{begins, finishes, goes_on, stops_on}
use Rattle.std.proofs.lemmas.Result.{err_from_is_err_and}
use Rattle.ibc_script.specs.declared.script.Step.TheVariants as step
use Rattle.ibc_script_cli.specs.Runs.Act.{SendPlans, Take}
use Rattle.ibc_script_cli.proofs.runner.Runner.relay_once.Goals as goal

pub returns-in_err-end-clause-ran : goal.returns-in_err-end-clause-ran
returns-in_err-end-clause-ran g c =
    let p = err_from_is_err_and c.from_residual.result c.from_residual.ensures.1 in rw p.1 (stops_on g.C.Chains.known c.args.self.now.names.now (Take (step.Block c.args.first None) ∷ []) (Take (step.Block c.args.second None) ∷ SendPlans c.args.first c.args.second ∷ []) (begins g.C.Chains.known c.args.self.now.names.now) c.in_err-end.ensures.ran)

pub returns-in_err-end-2-clause-ran : goal.returns-in_err-end-2-clause-ran
returns-in_err-end-2-clause-ran g c =
    let p = err_from_is_err_and c.from_residual-in_err-end-2.result c.from_residual-in_err-end-2.ensures.1 in rw p.1 (stops_on g.C.Chains.known c.args.self.now.names.now (Take (step.Block c.args.second None) ∷ []) (SendPlans c.args.first c.args.second ∷ []) (goes_on g.C.Chains.known c.args.self.now.names.now (Take (step.Block c.args.first None) ∷ []) (Take (step.Block c.args.second None) ∷ SendPlans c.args.first c.args.second ∷ []) (begins g.C.Chains.known c.args.self.now.names.now) c.in_ok-end.ensures.ran) c.in_err-end-2.ensures.ran)

pub returns-clause-ran : goal.returns-clause-ran
returns-clause-ran g c =
    finishes g.C.Chains.known c.args.self.now.names.now (SendPlans c.args.first c.args.second ∷ []) c.send_plans.result c.send_plans.new.chains (g.W.Write.contents c.send_plans.new.output) (goes_on g.C.Chains.known c.args.self.now.names.now (Take (step.Block c.args.second None) ∷ []) (SendPlans c.args.first c.args.second ∷ []) (goes_on g.C.Chains.known c.args.self.now.names.now (Take (step.Block c.args.first None) ∷ []) (Take (step.Block c.args.second None) ∷ SendPlans c.args.first c.args.second ∷ []) (begins g.C.Chains.known c.args.self.now.names.now) c.in_ok-end.ensures.ran) c.in_ok-end-2.ensures.ran) c.send_plans.ensures.ran
