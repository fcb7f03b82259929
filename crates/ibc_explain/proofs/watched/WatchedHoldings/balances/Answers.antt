-- The chains answer as their world does.
use Rattle.std.proofs.Common.{IfOk, map, subst}
use Rattle.ibc_refinement.specs.World.{WorldState}
use Rattle.ibc_script_cli.specs.Balances.{holding_of}
use Rattle.ibc_script_worlds.specs.WorldChains.{world_answers}
use Rattle.ibc_explain.proofs.watched.WatchedHoldings.balances.Goals as goal

pub returns : goal.returns
returns c =
    subst (λ (w : WorldState). IfOk c.balances.result (λ list. (world_answers w).balances c.args.chain (map holding_of list.items))) c.self.view_is c.balances.ensures
