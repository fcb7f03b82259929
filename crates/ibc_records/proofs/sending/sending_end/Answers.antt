-- Each check of the code is the definition's, behind those before it.
use Rattle.std.proofs.Common.{sym, ap, inl}
use Rattle.ibc_ids.specs.declared.refusal.Refusal.TheVariants.{UnknownChannel, WrongState}
use Rattle.ibc_machine.specs.chain.Checks.{require, expect}
use Rattle.ibc_machine.proofs.PassedChecks.{pass, fail, find}
use Rattle.ibc_records.proofs.Judging.{stops_at}
use Rattle.ibc_records.proofs.PacketChecks.{sending_row}
use Rattle.ibc_records.proofs.TakenPackets.{refused}
use Rattle.ibc_records.proofs.sending.sending_end.Goals as goal

pub returns-in_err-mine-clause-passed : goal.returns-in_err-mine-clause-passed
returns-in_err-mine-clause-passed c = refused _ c.from_residual.result c.from_residual.ensures.1 (stops_at _ c.in_err-mine.ensures.err (sending_row _ _ _))

pub returns-then-not-is_open-clause-passed : goal.returns-then-not-is_open-clause-passed
returns-then-not-is_open-clause-passed c =
    inl (fail _ (ap (λ b. require b WrongState) (sym c.if-not-is_open.ensures)) (find _ (ap (λ o. expect o UnknownChannel) c.in_ok-mine.ensures.ok) (sending_row _ _ _)))

pub returns-clause-passed : goal.returns-clause-passed
returns-clause-passed c =
    pass (ap (λ b. require b WrongState) (sym c.if-not-is_open.ensures)) (find _ (ap (λ o. expect o UnknownChannel) c.in_ok-mine.ensures.ok) (sending_row _ _ _))
