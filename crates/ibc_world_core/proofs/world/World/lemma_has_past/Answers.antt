use Rattle.std.proofs.Common.{subst}
use Rattle.ibc_refinement.specs.World.{IsWorld}
use Rattle.ibc_refinement.proofs.world.Together.{order_is_run}
use Rattle.ibc_world_core.proofs.world.World.lemma_has_past.Goals as goal

pub returns : goal.returns
returns c = order_is_run c.args.self.now (subst IsWorld c.self.view_is c.self.invariant.world)
