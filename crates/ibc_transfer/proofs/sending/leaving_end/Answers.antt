-- Each check of the code is the definition's.
use Rattle.std.proofs.Common.{None, sym, ap, ◌∙◌, inl}
use Rattle.std.proofs.lemmas.Result.{err_from_is_err_and}
use Rattle.ibc_ids.specs.declared.refusal.Refusal.TheVariants.{WrongVersion, TooLarge}
use Rattle.ibc_machine.specs.chain.Checks.{require}
use Rattle.ibc_machine.specs.ics04.Packets.{require_timeouts}
use Rattle.ibc_machine.specs.chain.Records.{Commitment}
use Rattle.ibc_machine.specs.ledger.Replay.{proof_evidence}
use Rattle.ibc_machine.proofs.PassedChecks.{pass, fail}
use Rattle.ibc_records.specs.RecordsModel.{core_of}
use Rattle.ibc_records.specs.HandlerContract.{host_with}
use Rattle.ibc_records.proofs.Judging.{stops_at, refuses}
use Rattle.ibc_transfer.specs.TransferChecks.{abstract_outgoing, require_channel}
use Rattle.ibc_transfer.proofs.Sends.{leave_rest, leave_row, leave_found}
use Rattle.ibc_transfer.proofs.sending.leaving_end.Goals as goal

pub returns-in_err-mine-clause-judged : goal.returns-in_err-mine-clause-judged
returns-in_err-mine-clause-judged c =
    let p = err_from_is_err_and c.from_residual.result c.from_residual.ensures.1 in
    λ chain chains seen state knowledge.
    let core = core_of c.args.records.now in
    let host = host_with chain chains c.args.records.now in
    let parcel = abstract_outgoing c.args.parcel.now in
    refuses (require_channel c.args.channel.now parcel (proof_evidence seen None state) host core) _ c.from_residual.result p.1 p.2
    (stops_at (leave_rest (proof_evidence seen None state) host core c.args.channel.now parcel) c.in_err-mine.ensures.passed
    (leave_row (proof_evidence seen None state) host core c.args.channel.now parcel c.args.port.now c.requires))

pub returns-then-not-has_version-clause-judged : goal.returns-then-not-has_version-clause-judged
returns-then-not-has_version-clause-judged c = λ chain chains seen state knowledge.
    inl (fail _ (ap (λ b. require b WrongVersion) (sym c.if-not-has_version.ensures)) (leave_found (proof_evidence seen None state) (host_with chain chains c.args.records.now) (core_of c.args.records.now) c.args.channel.now (abstract_outgoing c.args.parcel.now) c.args.port.now c.requires c.in_ok-mine.mine.now c.in_ok-mine.ensures.passed))

pub returns-then-not-parcel-clause-judged : goal.returns-then-not-parcel-clause-judged
returns-then-not-parcel-clause-judged c = λ chain chains seen state knowledge.
    inl (fail _ (ap (λ b. require b TooLarge) c.if-not-parcel.true) (pass (ap (λ b. require b WrongVersion) (sym c.if-not-has_version.ensures)) (leave_found (proof_evidence seen None state) (host_with chain chains c.args.records.now) (core_of c.args.records.now) c.args.channel.now (abstract_outgoing c.args.parcel.now) c.args.port.now c.requires c.in_ok-mine.mine.now c.in_ok-mine.ensures.passed)))

pub returns-in_err-check_timeouts-clause-judged : goal.returns-in_err-check_timeouts-clause-judged
returns-in_err-check_timeouts-clause-judged c =
    let p = err_from_is_err_and c.from_residual-in_err-check_timeouts.result c.from_residual-in_err-check_timeouts.ensures.1 in
    λ chain chains seen state knowledge.
    let evidence = proof_evidence seen None state in
    let core = core_of c.args.records.now in
    let host = host_with chain chains c.args.records.now in
    let mine = c.in_ok-mine.mine.now in
    let parcel = abstract_outgoing c.args.parcel.now in
    let found = leave_found evidence host core c.args.channel.now parcel c.args.port.now c.requires mine c.in_ok-mine.ensures.passed in
    let timeouts = ap (λ (k : Commitment). require_timeouts evidence core mine k) (sym c.commitment.view_is) ∙ sym (c.in_err-check_timeouts.ensures c.commitment.inside.payload seen state knowledge) in
    refuses (require_channel c.args.channel.now parcel evidence host core) _ c.from_residual-in_err-check_timeouts.result p.1 p.2
    (inl (fail _ timeouts (pass (ap (λ b. require b TooLarge) c.if-not-parcel.false) (pass (ap (λ b. require b WrongVersion) (sym c.if-not-has_version.ensures)) found))))

pub returns-clause-judged : goal.returns-clause-judged
returns-clause-judged c = λ chain chains seen state knowledge.
    let evidence = proof_evidence seen None state in
    let core = core_of c.args.records.now in
    let host = host_with chain chains c.args.records.now in
    let mine = c.in_ok-mine.mine.now in
    let parcel = abstract_outgoing c.args.parcel.now in
    let found = leave_found evidence host core c.args.channel.now parcel c.args.port.now c.requires mine c.in_ok-mine.ensures.passed in
    let timeouts = ap (λ (k : Commitment). require_timeouts evidence core mine k) (sym c.commitment.view_is) ∙ sym (c.in_ok-check_timeouts.ensures c.commitment.inside.payload seen state knowledge) in
    pass timeouts (pass (ap (λ b. require b TooLarge) c.if-not-parcel.false) (pass (ap (λ b. require b WrongVersion) (sym c.if-not-has_version.ensures)) found))
