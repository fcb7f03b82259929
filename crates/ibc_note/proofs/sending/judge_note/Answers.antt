-- Each check of the code is the definition's.
use Rattle.std.proofs.Common.{None, sym, ap, ◌∙◌, inl}
use Rattle.std.proofs.lemmas.Result.{err_from_is_err_and}
use Rattle.ibc_ids.specs.declared.refusal.Refusal.TheVariants.{TooLarge}
use Rattle.ibc_machine.specs.chain.Checks.{require}
use Rattle.ibc_machine.specs.ics24.Evidence.{require_number}
use Rattle.ibc_machine.specs.chain.Notes.{send_note}
use Rattle.ibc_machine.specs.ics04.Packets.{has_size}
use Rattle.ibc_machine.specs.ledger.Replay.{proof_evidence}
use Rattle.ibc_machine.proofs.PassedChecks.{pass, fail}
use Rattle.ibc_records.specs.RecordsModel.{core_of}
use Rattle.ibc_records.specs.HandlerContract.{host_with}
use Rattle.ibc_records.proofs.Judging.{stops_at, refuses}
use Rattle.ibc_note.proofs.Sends.{note_rest, note_row, note_found}
use Rattle.ibc_note.proofs.sending.judge_note.Goals as goal

pub returns-in_err-mine-clause-judged : goal.returns-in_err-mine-clause-judged
returns-in_err-mine-clause-judged c =
    let p = err_from_is_err_and c.from_residual.result c.from_residual.ensures.1 in
    λ chain chains seen state knowledge.
    refuses (send_note c.args.message.now (proof_evidence seen None state) (host_with chain chains c.args.records.now) (core_of c.args.records.now)) _ c.from_residual.result p.1 p.2
    (stops_at (note_rest (proof_evidence seen None state) (host_with chain chains c.args.records.now) (core_of c.args.records.now) c.args.message.now c.args.port.now c.requires) c.in_err-mine.ensures.passed (note_row (proof_evidence seen None state) (host_with chain chains c.args.records.now) (core_of c.args.records.now) c.args.message.now c.args.port.now c.requires))

pub returns-then-not-has_size-clause-judged : goal.returns-then-not-has_size-clause-judged
returns-then-not-has_size-clause-judged c = λ chain chains seen state knowledge.
    inl (fail _ (ap (λ b. require b TooLarge) (sym (c.if-not-has_size.ensures ∙ ap has_size c.as_slice.ensures))) (note_found (proof_evidence seen None state) (host_with chain chains c.args.records.now) (core_of c.args.records.now) c.args.message.now c.args.port.now c.requires c.in_ok-mine.mine.now c.in_ok-mine.ensures.passed))

pub returns-in_err-check_timeouts-clause-judged : goal.returns-in_err-check_timeouts-clause-judged
returns-in_err-check_timeouts-clause-judged c =
    let p = err_from_is_err_and c.from_residual-in_err-check_timeouts.result c.from_residual-in_err-check_timeouts.ensures.1 in
    λ chain chains seen state knowledge.
    refuses (send_note c.args.message.now (proof_evidence seen None state) (host_with chain chains c.args.records.now) (core_of c.args.records.now)) _ c.from_residual-in_err-check_timeouts.result p.1 p.2
    (inl (fail _ (sym (c.in_err-check_timeouts.ensures c.args.message.now.payload seen state knowledge)) (pass (ap (λ b. require b TooLarge) (sym (c.if-not-has_size.ensures ∙ ap has_size c.as_slice.ensures))) (note_found (proof_evidence seen None state) (host_with chain chains c.args.records.now) (core_of c.args.records.now) c.args.message.now c.args.port.now c.requires c.in_ok-mine.mine.now c.in_ok-mine.ensures.passed))))

pub returns-in_err-check_number-clause-judged : goal.returns-in_err-check_number-clause-judged
returns-in_err-check_number-clause-judged c =
    let p = err_from_is_err_and c.from_residual-in_err-check_number.result c.from_residual-in_err-check_number.ensures.1 in
    λ chain chains seen state knowledge.
    refuses (send_note c.args.message.now (proof_evidence seen None state) (host_with chain chains c.args.records.now) (core_of c.args.records.now)) _ c.from_residual-in_err-check_number.result p.1 p.2
    (inl (fail _ (sym (c.in_err-check_number.ensures.checked ∙ ap require_number c.next_send.ensures)) (pass (sym (c.in_ok-check_timeouts.ensures c.args.message.now.payload seen state knowledge)) (pass (ap (λ b. require b TooLarge) (sym (c.if-not-has_size.ensures ∙ ap has_size c.as_slice.ensures))) (note_found (proof_evidence seen None state) (host_with chain chains c.args.records.now) (core_of c.args.records.now) c.args.message.now c.args.port.now c.requires c.in_ok-mine.mine.now c.in_ok-mine.ensures.passed)))))

pub returns-clause-judged : goal.returns-clause-judged
returns-clause-judged c = λ chain chains seen state knowledge.
    pass (sym (c.in_ok-check_number.ensures.checked ∙ ap require_number c.next_send.ensures)) (pass (sym (c.in_ok-check_timeouts.ensures c.args.message.now.payload seen state knowledge)) (pass (ap (λ b. require b TooLarge) (sym (c.if-not-has_size.ensures ∙ ap has_size c.as_slice.ensures))) (note_found (proof_evidence seen None state) (host_with chain chains c.args.records.now) (core_of c.args.records.now) c.args.message.now c.args.port.now c.requires c.in_ok-mine.mine.now c.in_ok-mine.ensures.passed)))
