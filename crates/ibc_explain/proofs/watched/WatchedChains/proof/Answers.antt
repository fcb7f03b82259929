-- The chains answer as their world does.
use Rattle.std.proofs.Common.{subst}
use Rattle.ibc_refinement.specs.World.{WorldState}
use Rattle.ibc_script_worlds.specs.WorldChains.{world_answers}
use Rattle.ibc_explain.proofs.watched.WatchedChains.proof.Goals as goal

pub returns : goal.returns
returns c =
    subst (λ (w : WorldState). (world_answers w).proof c.args.chain c.args.height c.args.key.now c.in_ok-found.found) c.self.view_is c.in_ok-found.ensures
