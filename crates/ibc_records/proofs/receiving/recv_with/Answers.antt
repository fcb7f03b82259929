-- What the checks and the application say is what becomes of the message.
use Rattle.ibc_records.proofs.Judging.{stops}
use Rattle.ibc_records.proofs.PacketChecks.{recv_row}
use Rattle.ibc_records.proofs.TakenPackets.{unread_in_form, refused_message, recv_refused, recv_taken}
use Rattle.ibc_records.proofs.receiving.recv_with.Goals as goal

pub returns-in_err-proof-clause-answer : goal.returns-in_err-proof-clause-answer
returns-in_err-proof-clause-answer g c = λ chain chains seen state knowledge.
    refused_message _ c.args.records.now c.args.app.now c.from_residual.result c.from_residual.ensures.1 (recv_refused _ c.args.records.now _ _ _ _ (stops _ (unread_in_form c.has_form-form.ensures.form c.as_slice.ensures c.in_err-proof.ensures.err) (recv_row _ _ _ _)))

pub returns-in_err-judged-clause-answer : goal.returns-in_err-judged-clause-answer
returns-in_err-judged-clause-answer g c = λ chain chains seen state knowledge.
    refused_message _ c.args.records.now c.args.app.now c.from_residual-in_err-judged.result c.from_residual-in_err-judged.ensures.1 (recv_refused _ c.args.records.now _ _ _ _ (c.in_err-judged.ensures.judged chain chains seen state knowledge))

pub returns-clause-answer : goal.returns-clause-answer
returns-clause-answer g c = λ chain chains seen state knowledge.
    recv_taken _ c.args.records.now _ _ _ _ c.in_ok-judged.field-0.now (c.in_ok-judged.ensures.judged chain chains seen state knowledge) c.in_ok-judged.ensures.there
    c.receive.result c.receive.new.self c.receive.new.app c.receive.ensures.ok c.receive.ensures.err c.receive.ensures.unchanged
