-- No channel has an empty name.
use Rattle.std.proofs.Common.{◌∙◌, [], sym, ap}
use Rattle.std.specs.Option.{unwrap_or}
use Rattle.ibc_wire.specs.declared.records.ChannelEnd.{ChannelEnd}
use Rattle.ibc_relayer.proofs.Tracking.{none_named}
use Rattle.ibc_relayer.proofs.ends.ends_of.Goals as goal

pub returns-in_default-peer_channel-clause-ok : goal.returns-in_default-peer_channel-clause-ok
returns-in_default-peer_channel-clause-ok c =
    none_named c.args.a.now c.args.b.now c.args.mine.now c.args.port.now c.args.channel.now c.lemma_names_have_form.ensures
    (ap (λ o. unwrap_or o []) (ap (λ (e : ChannelEnd). e.peer_channel) (sym c.end.ensures) ∙ c.in_default-peer_channel.is))
