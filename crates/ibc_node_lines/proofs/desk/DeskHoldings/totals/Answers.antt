-- What the world tells of a channel is answered.
use Rattle.std.proofs.Common.{subst}
use Rattle.ibc_refinement.specs.World.{WorldState}
use Rattle.ibc_script_worlds.specs.WorldChains.{TellsTotals}
use Rattle.ibc_node_lines.proofs.desk.DeskHoldings.totals.Goals as goal

pub returns : goal.returns
returns g c =
    subst (λ (w : WorldState). TellsTotals w c.args.chain c.args.channel.now c.args.denom.now c.totals.result) c.world.ensures
    (c.totals.ensures.ok, c.totals.ensures.refused)
