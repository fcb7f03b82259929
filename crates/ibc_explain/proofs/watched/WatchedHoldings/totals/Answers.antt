-- The chains answer as their world does.
use Rattle.std.proofs.Common.{subst}
use Rattle.ibc_refinement.specs.World.{WorldState}
use Rattle.ibc_script_worlds.specs.WorldChains.{world_answers}
use Rattle.ibc_explain.proofs.watched.WatchedHoldings.totals.Goals as goal

pub returns : goal.returns
returns c =
    subst (λ (w : WorldState). (world_answers w).totals c.args.chain c.args.channel.now c.args.denom.now c.totals.result) c.self.view_is c.totals.ensures
