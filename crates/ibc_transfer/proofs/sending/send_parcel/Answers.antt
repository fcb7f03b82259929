-- What the checks say is what becomes of the parcel.
use Rattle.std.proofs.Common.{None, refl}
use Rattle.std.proofs.lemmas.Result.{err_from_is_err_and}
use Rattle.ibc_machine.specs.declared.reply.Effect.TheVariants as effect
use Rattle.ibc_machine.specs.ledger.Replay.{proof_evidence}
use Rattle.ibc_records.specs.RecordsModel.{core_of}
use Rattle.ibc_records.specs.HandlerContract.{host_with}
use Rattle.ibc_records.proofs.TakenPackets.{untaken_with}
use Rattle.ibc_transfer.specs.TransferChecks.{abstract_outgoing, send_handler}
use Rattle.ibc_transfer.proofs.Sends.{sends_refused, unpaid, parcel_taken}
use Rattle.ibc_transfer.proofs.sending.send_parcel.Goals as goal

pub returns-in_err-mine : goal.returns-in_err-mine
returns-in_err-mine c =
    let old = c.args.records.now in
    let bank = c.args.transfers.now in
    let parcel = abstract_outgoing c.args.parcel in
    let p = err_from_is_err_and c.from_residual-in_err-mine.result c.from_residual-in_err-mine.ensures.1 in
    λ chain chains seen state knowledge.
    untaken_with effect.Sent (send_handler c.args.channel.now parcel (proof_evidence seen None state) (host_with chain chains old) (core_of old) bank) old bank c.from_residual-in_err-mine.result old bank p.1 p.2
    (sends_refused (proof_evidence seen None state) (host_with chain chains old) (core_of old) c.args.channel.now parcel bank (c.in_err-mine.ensures.judged chain chains seen state knowledge)) refl refl

pub returns-in_err-check_next : goal.returns-in_err-check_next
returns-in_err-check_next c =
    let old = c.args.records.now in
    let bank = c.args.transfers.now in
    let parcel = abstract_outgoing c.args.parcel in
    let p = err_from_is_err_and c.from_residual-in_err-check_next.result c.from_residual-in_err-check_next.ensures.1 in
    λ chain chains seen state knowledge.
    untaken_with effect.Sent (send_handler c.args.channel.now parcel (proof_evidence seen None state) (host_with chain chains old) (core_of old) bank) old bank c.from_residual-in_err-check_next.result old bank p.1 p.2
    (unpaid (proof_evidence seen None state) (host_with chain chains old) (core_of old) c.args.channel.now parcel bank c.bank.ensures c.as_slice.ensures.value c.in_ok-mine.mine.now
    (c.in_ok-mine.ensures.judged chain chains seen state knowledge) c.in_err-check_next.ensures.err) refl refl

pub returns : goal.returns
returns c =
    let old = c.args.records.now in
    let bank = c.args.transfers.now in
    let parcel = abstract_outgoing c.args.parcel in
    λ chain chains seen state knowledge.
    parcel_taken (proof_evidence seen None state) (host_with chain chains old) old bank c.args.channel.now parcel c.in_ok-port.port c.in_ok-port.ensures.ok c.in_ok-mine.mine.now
    (c.in_ok-mine.ensures.judged chain chains seen state knowledge) c.in_ok-check_next.ensures.ok c.in_ok-mine.ensures.there
    c.send_paid.result c.send_paid.new.self c.send_paid.new.payer c.send_paid.ensures.ok c.send_paid.ensures.paid c.send_paid.ensures.err c.send_paid.ensures.unchanged
