use Rattle.std.proofs.Common.{[], ◌∷◌, ap, sym, refl}
use Rattle.std.proofs.lemmas.Result.{err_from_is_err_and}
use Rattle.ibc_ids.specs.Texts.{Text}
use Rattle.ibc_ids.specs.Paths.{channel_parts}
use Rattle.ibc_ids.specs.declared.key.Key.TheVariants as key
use Rattle.ibc_ids.proofs.KeyParts.{refused_record}
use Rattle.ibc_ids.proofs.path.record_of_channel.Goals as goal

pub returns-in_err-port-in-channelEnds : goal.returns-in_err-port-in-channelEnds
returns-in_err-port-in-channelEnds c =
    let a = c.args in
    let p = err_from_is_err_and c.from_residual.result c.from_residual.ensures.1 in
    rw (p.1, p.2) (refused_record a.kind.now a.port.now a.channel.now c.in_err-port-in-channelEnds.field-0.0 (key.ChannelEnd a.port.now a.channel.now) c.in_err-port-in-channelEnds.ensures.refused
    (ap (λ (t : Text). t ∷ channel_parts a.port.now a.channel.now []) (sym c.in-channelEnds.is)) refl)

pub returns-in_err-port-in-nextSequenceSend : goal.returns-in_err-port-in-nextSequenceSend
returns-in_err-port-in-nextSequenceSend c =
    let a = c.args in
    let p = err_from_is_err_and c.from_residual-in_err-port-in-nextSequenceSend.result c.from_residual-in_err-port-in-nextSequenceSend.ensures.1 in
    rw (p.1, p.2) (refused_record a.kind.now a.port.now a.channel.now c.in_err-port-in-nextSequenceSend.field-0.0 (key.NextSequenceSend a.port.now a.channel.now) c.in_err-port-in-nextSequenceSend.ensures.refused
    (ap (λ (t : Text). t ∷ channel_parts a.port.now a.channel.now []) (sym c.in-nextSequenceSend.is)) refl)

pub returns-in_err-port-in-nextSequenceRecv : goal.returns-in_err-port-in-nextSequenceRecv
returns-in_err-port-in-nextSequenceRecv c =
    let a = c.args in
    let p = err_from_is_err_and c.from_residual-in_err-port-in-nextSequenceRecv.result c.from_residual-in_err-port-in-nextSequenceRecv.ensures.1 in
    rw (p.1, p.2) (refused_record a.kind.now a.port.now a.channel.now c.in_err-port-in-nextSequenceRecv.field-0.0 (key.NextSequenceRecv a.port.now a.channel.now) c.in_err-port-in-nextSequenceRecv.ensures.refused
    (ap (λ (t : Text). t ∷ channel_parts a.port.now a.channel.now []) (sym c.in-nextSequenceRecv.is)) refl)

pub returns-in_err-port-in-nextSequenceAck : goal.returns-in_err-port-in-nextSequenceAck
returns-in_err-port-in-nextSequenceAck c =
    let a = c.args in
    let p = err_from_is_err_and c.from_residual-in_err-port-in-nextSequenceAck.result c.from_residual-in_err-port-in-nextSequenceAck.ensures.1 in
    rw (p.1, p.2) (refused_record a.kind.now a.port.now a.channel.now c.in_err-port-in-nextSequenceAck.field-0.0 (key.NextSequenceAck a.port.now a.channel.now) c.in_err-port-in-nextSequenceAck.ensures.refused
    (ap (λ (t : Text). t ∷ channel_parts a.port.now a.channel.now []) (sym c.in-nextSequenceAck.is)) refl)
