use Rattle.std.proofs.Common.{◌∷◌, ap, sym, refl, arith}
use Rattle.std.proofs.lemmas.Result.{err_from_is_err_and}
use Rattle.ibc_ids.specs.Texts.{Text}
use Rattle.ibc_ids.specs.Paths.{sequence_parts}
use Rattle.ibc_ids.specs.declared.key.Key.TheVariants as key
use Rattle.ibc_ids.proofs.KeyParts.{refused_sequence}
use Rattle.ibc_ids.proofs.path.record_at_sequence.Goals as goal

pub returns-in_err-port-in-commitments : goal.returns-in_err-port-in-commitments
returns-in_err-port-in-commitments c =
    let a = c.args in
    let n = c.in-Some.sequence in
    let p = err_from_is_err_and c.from_residual.result c.from_residual.ensures.1 in
    rw (p.1, p.2) (refused_sequence a.kind.now a.port.now a.channel.now a.sequence.now n c.in_err-port-in-commitments.field-0.0 (key.Commitment a.port.now a.channel.now n) c.in_err-port-in-commitments.ensures.refused (omega arith) c.in-Some.ensures
    (ap (λ (t : Text). t ∷ sequence_parts a.port.now a.channel.now n) (sym c.in-commitments.is)) refl)

pub returns-in_err-port-in-receipts : goal.returns-in_err-port-in-receipts
returns-in_err-port-in-receipts c =
    let a = c.args in
    let n = c.in-Some.sequence in
    let p = err_from_is_err_and c.from_residual-in_err-port-in-receipts.result c.from_residual-in_err-port-in-receipts.ensures.1 in
    rw (p.1, p.2) (refused_sequence a.kind.now a.port.now a.channel.now a.sequence.now n c.in_err-port-in-receipts.field-0.0 (key.Receipt a.port.now a.channel.now n) c.in_err-port-in-receipts.ensures.refused (omega arith) c.in-Some.ensures
    (ap (λ (t : Text). t ∷ sequence_parts a.port.now a.channel.now n) (sym c.in-receipts.is)) refl)

pub returns-in_err-port-in-acks : goal.returns-in_err-port-in-acks
returns-in_err-port-in-acks c =
    let a = c.args in
    let n = c.in-Some.sequence in
    let p = err_from_is_err_and c.from_residual-in_err-port-in-acks.result c.from_residual-in_err-port-in-acks.ensures.1 in
    rw (p.1, p.2) (refused_sequence a.kind.now a.port.now a.channel.now a.sequence.now n c.in_err-port-in-acks.field-0.0 (key.Acknowledgement a.port.now a.channel.now n) c.in_err-port-in-acks.ensures.refused (omega arith) c.in-Some.ensures
    (ap (λ (t : Text). t ∷ sequence_parts a.port.now a.channel.now n) (sym c.in-acks.is)) refl)
