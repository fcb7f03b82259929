-- What the checks say is what becomes of the message.
use Rattle.std.proofs.Common.{◌≡◌, None, refl, ap}
use Rattle.std.proofs.lemmas.Result.{err_from_is_err_and}
use Rattle.ibc_ids.specs.Texts.{Text}
use Rattle.ibc_machine.specs.declared.reply.Effect.TheVariants as effect
use Rattle.ibc_machine.specs.chain.Notes.{note_commitment, send_note}
use Rattle.ibc_machine.specs.chain.Records.{Commitment}
use Rattle.ibc_machine.specs.ledger.Replay.{proof_evidence}
use Rattle.ibc_records.specs.RecordsModel.{core_of}
use Rattle.ibc_records.specs.HandlerContract.{host_with}
use Rattle.ibc_records.proofs.Judging.{untaken}
use Rattle.ibc_note.proofs.Sends.{note_taken}
use Rattle.ibc_note.proofs.sending.send_note.Goals as goal

pub returns-in_err-judge_note : goal.returns-in_err-judge_note
returns-in_err-judge_note c =
    let old = c.args.records.now in
    let p = err_from_is_err_and c.from_residual-in_err-judge_note.result c.from_residual-in_err-judge_note.ensures.1 in
    λ chain chains seen state knowledge.
    untaken effect.Sent (send_note c.args.message.now (proof_evidence seen None state) (host_with chain chains old) (core_of old)) old c.from_residual-in_err-judge_note.result old p.1 p.2
    (c.in_err-judge_note.ensures.judged chain chains seen state knowledge) refl

pub returns : goal.returns
returns c =
    let old = c.args.records.now in
    let m = c.args.message.now in
    let sent : Commitment = record { payload = c.in_ok-clone.field-0; timeout_height = m.timeout_height; timeout_time = m.timeout_time } in
    let committed : sent ≡ note_commitment m = ap (λ (text : Text). record { payload = text; timeout_height = m.timeout_height; timeout_time = m.timeout_time }) c.in_ok-clone.ensures.cases in
    λ chain chains seen state knowledge.
    note_taken (send_note m (proof_evidence seen None state) (host_with chain chains old) (core_of old)) old m c.in_ok-port.port sent committed c.in_ok-judge_note.field-0.now
    (c.in_ok-judge_note.ensures.judged chain chains seen state knowledge) c.in_ok-judge_note.ensures.there
    c.send.result c.send.new.self c.send.ensures.ok c.send.ensures.err c.send.ensures.unchanged
