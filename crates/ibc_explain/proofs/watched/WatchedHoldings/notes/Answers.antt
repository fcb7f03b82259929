-- The chains answer as their world does.
use Rattle.std.proofs.Common.{IfOk, map, subst}
use Rattle.ibc_refinement.specs.World.{WorldState}
use Rattle.ibc_script_cli.specs.Balances.{notes_of}
use Rattle.ibc_script_worlds.specs.WorldChains.{world_answers}
use Rattle.ibc_explain.proofs.watched.WatchedHoldings.notes.Goals as goal

pub returns : goal.returns
returns c =
    subst (λ (w : WorldState). IfOk c.notes.result (λ list. (world_answers w).notes c.args.chain (map notes_of list.items))) c.self.view_is c.notes.ensures
