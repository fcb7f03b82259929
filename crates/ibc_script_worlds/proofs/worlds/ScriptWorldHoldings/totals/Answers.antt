use Rattle.std.proofs.Common.{subst}
use Rattle.ibc_refinement.specs.World.{WorldState}
use Rattle.ibc_script_worlds.specs.WorldChains.{TellsTotals}
use Rattle.ibc_script_worlds.proofs.worlds.ScriptWorldHoldings.totals.Goals as goal

pub returns : goal.returns
returns c =
    subst (λ (w : WorldState). TellsTotals w c.args.chain c.args.channel.now c.args.denom.now c.totals.result) c.self.view_is
    (c.totals.ensures.ok, c.totals.ensures.refused)
