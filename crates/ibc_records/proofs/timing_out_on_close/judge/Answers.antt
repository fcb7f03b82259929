-- A proof that can't be read, and then the other.
use Rattle.std.proofs.Common.{Err, is_some, sym, ap, ◌∙◌, ◌&&◌, subst}
use Rattle.ibc_ids.specs.declared.refusal.Refusal.TheVariants.{BadMessage}
use Rattle.ibc_wire.specs.Reading.{proof_of}
use Rattle.ibc_machine.specs.chain.Checks.{require}
use Rattle.ibc_records.proofs.Judging.{IsRefusedBy, stops, unread}
use Rattle.ibc_records.proofs.PacketChecks.{close_row}
use Rattle.ibc_records.proofs.TakenPackets.{refused, unread_in_form, refused_before, refused_behind}
use Rattle.ibc_records.proofs.timing_out_on_close.judge.Goals as goal

pub returns-in_err-proof-clause-judged : goal.returns-in_err-proof-clause-judged
returns-in_err-proof-clause-judged c = λ chain chains seen state knowledge.
    refused _ c.from_residual.result c.from_residual.ensures.1 (stops _ (refused_before _ _ (unread_in_form c.has_form-form.ensures.form c.as_slice.ensures c.in_err-proof.ensures.err)) (close_row _ _ _ _))

pub returns-in-Err-clause-judged : goal.returns-in-Err-clause-judged
returns-in-Err-clause-judged c = λ chain chains seen state knowledge.
    stops _ (refused_behind _ (λ i. (sym c.has_form-form.ensures.form ∙ c.in_ok-proof.ensures.form) i && is_some ((ap proof_of (sym c.as_slice.ensures) ∙ c.in_ok-proof.ensures.ok) i))
    (subst (λ text. IsRefusedBy (require (is_some (proof_of text)) BadMessage) c.in-Err.refusal) c.as_slice-2.ensures (unread (λ is. c.in-Err.ensures.bad (ap Err is)) c.in-Err.ensures.err)))
    (close_row _ _ _ _)
