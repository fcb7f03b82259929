-- The chains answer as their world does.
use Rattle.std.proofs.Common.{subst}
use Rattle.ibc_refinement.specs.World.{WorldState}
use Rattle.ibc_script_worlds.specs.WorldChains.{world_answers}
use Rattle.ibc_explain.proofs.watched.WatchedChains.packet.Goals as goal

pub returns : goal.returns
returns c =
    subst (λ (w : WorldState). (world_answers w).packet c.args.chain c.args.port.now c.args.channel.now c.args.sequence c.in_ok-found.found) c.self.view_is c.in_ok-found.ensures
