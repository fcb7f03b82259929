-- The claim that is made is the one that the peer must meet.
use Rattle.std.proofs.Common.{Some, ap, ◌∙◌}
use Rattle.ibc_ids.specs.Paths.{path}
use Rattle.ibc_ids.specs.declared.key.Key.TheVariants as key
use Rattle.ibc_wire.specs.declared.records.ChannelEnd.{ChannelEnd}
use Rattle.ibc_wire.specs.declared.records.ChannelState.TheVariants.{Closed}
use Rattle.ibc_records.specs.Peers.{end_bytes, text_of}
use Rattle.ibc_records.proofs.Claimed.{peer_shown}
use Rattle.ibc_records.proofs.claims.check_closed.Goals as goal

pub returns : goal.returns
returns c =
    let mine = c.args.mine.now.end in
    let p = c.args.message.now.packet in
    peer_shown c.args.records.now mine c.args.connection.now c.args.message.now.height c.requires.there c.requires.known
    p.destination_channel p.source_port (Some p.source_channel) Closed c.args.proof.now c.check_claim_with.result
    (c.in_ok-claim.ensures.path ∙ (λ i. path (key.ChannelEnd (ap (λ (e : ChannelEnd). e.peer_port) c.end-end.ensures i) (c.as_str-peer.ensures.text i))))
    (c.in_ok-claim.ensures.value
    ∙ (λ i. end_bytes Closed (ap (λ (e : ChannelEnd). e.order) c.end-end.ensures i) p.source_port (c.as_str-channel.ensures.text i) (text_of c.args.connection.now.peer_connection) (ap (λ (e : ChannelEnd). e.version) c.end-end.ensures i)))
    c.check_claim_with.ensures
