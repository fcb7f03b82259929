-- The world goes on by the event.
use Rattle.std.proofs.Common.{subst}
use Rattle.ibc_refinement.specs.Steps.{IsStep}
use Rattle.ibc_refinement.specs.World.{WorldState}
use Rattle.ibc_sim.proofs.checked.CheckedChains.ask.Goals as goal

pub returns : goal.returns
returns c = subst (λ (w : WorldState). IsStep w c.args.event c.in_ok-reply.reply c.ask.new.self) c.self.view_is c.in_ok-reply.ensures
