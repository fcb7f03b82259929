-- What is told of a channel at the end of a run.
use Rattle.std.specs.Prelude.{◌≡◌, ◌+◌, Ok}
use Rattle.ibc_machine.specs.ics23.HashedTexts.{HasNoClash}
use Rattle.ibc_machine.specs.promises.Totals.{totals}
use Rattle.ibc_refinement.specs.World.{WorldState}
use Rattle.ibc_world_core.specs.EveryWorld.{states_of}
use Rattle.ibc_world_core.specs.Totals.{abstract_totals}
use Rattle.ibc_explain.specs.declared.totals.ChannelTotal.{ChannelTotal}

-- It is what the chain has. Where no two different texts that the chains hashed share a digest, the escrow holds just the
-- vouchers and what is under way there and back.
pub record IsTotalOf (world : WorldState) (t : ChannelTotal) : Type 0 where
  pub told : totals (states_of world) t.chain t.channel.now t.denom.now ≡ Ok (abstract_totals t.totals)
  pub balanced : HasNoClash world.ledgers → t.totals.escrow ≡ t.totals.vouchers + t.totals.out + t.totals.back
