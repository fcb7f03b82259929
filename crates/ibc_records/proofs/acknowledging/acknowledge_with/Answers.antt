-- What the checks and the application say is what becomes of the message.
use Rattle.std.proofs.Common.{◌≡◌, ◌⊎◌, Err, subst}
use Rattle.std.specs.Prelude.{OnOk, IfErr, IfSome}
use Rattle.ibc_ids.specs.Texts.{Text}
use Rattle.ibc_ids.specs.declared.refusal.Refusal.TheVariants.{NoMemory}
use Rattle.ibc_machine.specs.chain.Records.{Channel, channel_at}
use Rattle.ibc_records.specs.RecordsModel.{core_of}
use Rattle.ibc_records.specs.Packets.{AcknowledgesPacket}
use Rattle.ibc_records.proofs.Judging.{stops}
use Rattle.ibc_records.proofs.PacketChecks.{ack_row}
use Rattle.ibc_records.proofs.TakenPackets.{unread_in_form, refused_message, ack_refused, ack_taken}
use Rattle.ibc_records.proofs.acknowledging.acknowledge_with.Goals as goal

pub returns-in_err-proof : goal.returns-in_err-proof
returns-in_err-proof g c = λ chain chains seen state knowledge.
    refused_message _ c.args.records.now c.args.app.now c.from_residual.result c.from_residual.ensures.1 (ack_refused _ c.args.records.now _ _ _ _ (stops _ (unread_in_form c.is_in_form-form.ensures.form c.as_slice.ensures c.in_err-proof.ensures.err) (ack_row _ _ _ _)))

pub returns-in_err-judged : goal.returns-in_err-judged
returns-in_err-judged g c = λ chain chains seen state knowledge.
    refused_message _ c.args.records.now c.args.app.now c.from_residual-in_err-judged.result c.from_residual-in_err-judged.ensures.1 (ack_refused _ c.args.records.now _ _ _ _ (c.in_err-judged.ensures.judged chain chains seen state knowledge))

pub returns : goal.returns
returns g c = λ chain chains seen state knowledge.
    ack_taken _ c.args.records.now _ _ _ _ c.in_ok-judged.field-0.now (c.in_ok-judged.ensures.judged chain chains seen state knowledge) c.in_ok-judged.ensures.there
    c.acknowledge.result c.acknowledge.new.self c.acknowledge.new.app
    (subst (λ (text : Text). OnOk c.acknowledge.result (AcknowledgesPacket g.A.App.is_acknowledged c.args.records.now c.args.app.now c.args.message.now.packet text c.acknowledge.new.self c.acknowledge.new.app)) c.as_slice-2.ensures c.acknowledge.ensures.ok)
    (subst (λ (text : Text). IfErr c.acknowledge.result (λ refusal. (refusal ≡ NoMemory) ⊎ IfSome (channel_at (core_of c.args.records.now) c.args.message.now.packet.source_port c.args.message.now.packet.source_channel)
    (λ (mine : Channel). g.A.App.is_acknowledged c.args.app.now mine.end.version c.args.message.now.packet text ≡ Err refusal))) c.as_slice-2.ensures c.acknowledge.ensures.err)
    c.acknowledge.ensures.unchanged
