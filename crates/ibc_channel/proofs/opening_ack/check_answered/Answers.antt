-- The claim that is made is the one that the peer must meet.
use Rattle.std.proofs.Common.{Some, ap, ◌∙◌}
use Rattle.std.proofs.lemmas.Result.{err_from_is_err_and}
use Rattle.ibc_ids.specs.Paths.{path}
use Rattle.ibc_ids.specs.declared.key.Key.TheVariants as key
use Rattle.ibc_wire.specs.declared.records.ChannelState.TheVariants.{TryOpen}
use Rattle.ibc_records.proofs.Judging.{unchecked}
use Rattle.ibc_records.specs.Peers.{end_bytes, text_of}
use Rattle.ibc_records.proofs.Claimed.{peer_shown}
use Rattle.ibc_channel.proofs.opening_ack.check_answered.Goals as goal

pub returns-in_err-claim : goal.returns-in_err-claim
returns-in_err-claim c =
    let p = err_from_is_err_and c.from_residual.result c.from_residual.ensures.1 in
    λ seen state text knows reads. unchecked c.from_residual.result p.1 (p.2 ∙ c.in_err-claim.ensures.err)

pub returns : goal.returns
returns c =
    peer_shown c.args.records.now c.args.mine.now c.args.connection.now c.args.message.now.height c.requires.there c.requires.known
    c.args.message.now.peer_channel c.args.message.now.port (Some c.args.message.now.channel) TryOpen c.args.proof.now c.check_claim_with.result
    (c.in_ok-claim.ensures.path ∙ ap (λ text. path (key.ChannelEnd c.args.mine.now.peer_port text)) c.as_str-peer.ensures.text)
    (c.in_ok-claim.ensures.value ∙ ap (λ text. end_bytes TryOpen c.args.mine.now.order c.args.message.now.port text (text_of c.args.connection.now.peer_connection) c.args.mine.now.version) c.as_str-channel.ensures.text)
    c.check_claim_with.ensures
