-- What the checks and the application say is what becomes of the message.
use Rattle.ibc_records.proofs.Judging.{stops}
use Rattle.ibc_records.proofs.PacketChecks.{timeout_row}
use Rattle.ibc_records.proofs.TakenPackets.{unread_in_form, refused_message, timeout_refused, timeout_given, time_out_taken}
use Rattle.ibc_records.proofs.timing_out.timeout_with.Goals as goal

pub returns-in_err-proof : goal.returns-in_err-proof
returns-in_err-proof g c = λ chain chains seen state knowledge.
    refused_message _ c.args.records.now c.args.app.now c.from_residual.result c.from_residual.ensures.1 (timeout_refused _ _ _ _ _ _ (stops _ (unread_in_form c.has_form-form.ensures.form c.as_slice.ensures c.in_err-proof.ensures.err) (timeout_row _ _ _ _)))

pub returns-in_err-judged : goal.returns-in_err-judged
returns-in_err-judged g c = λ chain chains seen state knowledge.
    refused_message _ c.args.records.now c.args.app.now c.from_residual-in_err-judged.result c.from_residual-in_err-judged.ensures.1 (timeout_refused _ _ _ _ _ _ (c.in_err-judged.ensures.judged chain chains seen state knowledge))

pub returns : goal.returns
returns g c = λ chain chains seen state knowledge.
    time_out_taken g.A.App.times_out c.args.records.now c.args.app.now c.args.message.now.packet _ c.in_ok-judged.field-0.now
    (timeout_given _ _ _ _ _ _ _ (c.in_ok-judged.ensures.judged chain chains seen state knowledge)) c.in_ok-judged.ensures.there
    c.time_out.result c.time_out.new.self c.time_out.new.app c.time_out.ensures.ok c.time_out.ensures.err c.time_out.ensures.unchanged
