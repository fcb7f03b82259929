-- What becomes of the parcel is what becomes of the message.
use Rattle.std.proofs.Common.{None, sym, ap, subst, ◌∙◌}
use Rattle.ibc_machine.specs.declared.reply.Effect.{Effect}
use Rattle.ibc_machine.specs.declared.reply.Effect.TheVariants as effect
use Rattle.ibc_machine.specs.chain.Checks.{Checked}
use Rattle.ibc_machine.specs.chain.Records.{Core}
use Rattle.ibc_machine.specs.ledger.Replay.{proof_evidence}
use Rattle.ibc_bank.specs.Moves.{BankState}
use Rattle.ibc_records.specs.RecordsModel.{core_of}
use Rattle.ibc_records.specs.HandlerContract.{IsTakenWith, host_with}
use Rattle.ibc_transfer.specs.BankTransfers.{bank_transfer}
use Rattle.ibc_transfer.specs.TransferChecks.{OutgoingModel, send_handler}
use Rattle.ibc_transfer.proofs.ByBank.{taken_by_balances, transfer_by_bank}
use Rattle.ibc_transfer.proofs.Sends.{one_sent}
use Rattle.ibc_transfer.proofs.sending.send_transfer.Goals as goal

pub returns-clause-counted : goal.returns-clause-counted
returns-clause-counted c =
    let old = c.args.records.now in
    let bank = c.args.transfers.now in
    let m = c.args.message.now in
    λ chain chains seen state knowledge.
    let host = host_with chain chains old in
    subst (λ (checked : Checked (Effect × Core × BankState)). IsTakenWith effect.Sent checked old bank c.send_parcel.result c.send_parcel.new.records c.send_parcel.new.transfers)
    (ap (λ (parcel : OutgoingModel). send_handler m.channel parcel (proof_evidence seen None state) host (core_of old) bank) c.in_ok-parcel.ensures.ok ∙ sym (one_sent (proof_evidence seen None state) host (core_of old) bank m))
    (c.send_parcel.ensures chain chains seen state knowledge)

pub returns-clause-answer : goal.returns-clause-answer
returns-clause-answer c =
    let old = c.args.records.now in
    let bank = c.args.transfers.now in
    let m = c.args.message.now in
    λ chain chains seen state knowledge.
    let host = host_with chain chains old in
    taken_by_balances (bank_transfer m (proof_evidence seen None state) host (core_of old) bank) _ (transfer_by_bank (proof_evidence seen None state) host (core_of old) bank m) old bank c.send_parcel.result c.send_parcel.new.records c.send_parcel.new.transfers
    (subst (λ (checked : Checked (Effect × Core × BankState)). IsTakenWith effect.Sent checked old bank c.send_parcel.result c.send_parcel.new.records c.send_parcel.new.transfers)
    (ap (λ (parcel : OutgoingModel). send_handler m.channel parcel (proof_evidence seen None state) host (core_of old) bank) c.in_ok-parcel.ensures.ok ∙ sym (one_sent (proof_evidence seen None state) host (core_of old) bank m))
    (c.send_parcel.ensures chain chains seen state knowledge))
