use Rattle.std.proofs.Common.{[], ◌∷◌, ◌∙◌, List, Some, ap, arith, length, map, subst, sym}
use Rattle.std.proofs.lemmas.List.{nil_from_length}
use Rattle.std.specs.Vec.Iter.{into_iter_items}
use Rattle.ibc_script.specs.declared.script.Step.{Step}
use Rattle.ibc_script_cli.proofs.Reaching.{goes_on}
use Rattle.ibc_script_cli.specs.Runs.{Reached}
use Rattle.ibc_script_cli.specs.Runs.Act.{Take}
use Rattle.ibc_script_worlds.specs.WorldChains.{world_chains}
use Rattle.ibc_explain.proofs.running.Running.take_each.Goals as goal

pub loop-step-preserved : goal.loop-step-preserved
loop-step-preserved c =
    record {
      counted =
          let long = ap length c.in-Some.ensures.steps.0 in
          let one_less = c.in-Some.ensures.steps.1 in
          let counted = c.loop-step.invariant.counted in
          omega arith;
      ran = goes_on world_chains c.args.runner.now.names.now (Take c.in-Some.step ∷ []) (map Take (into_iter_items c.next.new.self))
          (subst (λ (l : List Step). Reached world_chains c.args.runner.now.names.now (map Take c.args.steps.items) c.args.self.now.chains (Some c.args.self.now.text.items) (map Take l) c.loop-step.self.chains (Some c.loop-step.self.text.items)) c.in-Some.ensures.steps.0 c.loop-step.invariant.ran)
          c.in_ok-take.ensures.ran;
    }

pub returns-clause-ran : goal.returns-clause-ran
returns-clause-ran c =
    let none = nil_from_length (into_iter_items c.loop-step.step-iterator) (sym c.loop-step.invariant.counted ∙ c.in-None.ensures.steps.0) in
    subst (λ (l : List Step). Reached world_chains c.args.runner.now.names.now (map Take c.args.steps.items) c.args.self.now.chains (Some c.args.self.now.text.items) (map Take l) c.loop-step.self.chains (Some c.loop-step.self.text.items)) none c.loop-step.invariant.ran
