use Rattle.ibc_ids.proofs.Hops.{behind_both}
use Rattle.ibc_ids.proofs.denom.behind_hop.Goals as goal

pub returns : goal.returns
returns c = behind_both c.args.denom.now c.args.port.now c.args.channel.now c.in_ok-behind.field-0.now c.behind-2.result c.in_ok-behind.ensures c.behind-2.ensures
