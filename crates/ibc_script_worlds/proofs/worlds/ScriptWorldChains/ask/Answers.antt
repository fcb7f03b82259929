use Rattle.std.proofs.Common.{subst, sym}
use Rattle.ibc_machine.specs.chain.Genesis.{GenesisState}
use Rattle.ibc_refinement.specs.Steps.{IsStep}
use Rattle.ibc_refinement.specs.World.{WorldState}
use Rattle.ibc_script_worlds.specs.WorldChains.{AreStartsOf}
use Rattle.ibc_script_worlds.proofs.worlds.ScriptWorldChains.ask.Goals as goal

pub invariant_of-self : goal.invariant_of-self
invariant_of-self c =
    (subst (λ (g : GenesisState). AreStartsOf g c.self.inside.starts) (sym c.step.ensures.step.genesis) c.self.invariant.0, c.step.ensures.runs.is.of)

pub returns : goal.returns
returns c = subst (λ (w : WorldState). IsStep w c.args.event c.step.result c.step.new.self) c.self.view_is c.step.ensures.step
