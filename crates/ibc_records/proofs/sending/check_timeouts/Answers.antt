-- Each check of the code is the definition's.
use Rattle.std.proofs.Common.{None}
use Rattle.ibc_machine.specs.ledger.Replay.{proof_evidence}
use Rattle.ibc_records.specs.RecordsModel.{core_of}
use Rattle.ibc_records.specs.TimeoutChecks.{with_timeouts}
use Rattle.ibc_records.proofs.Limits.{no_timeout, too_late, in_time}
use Rattle.ibc_records.proofs.sending.check_timeouts.Goals as goal

pub returns-then-has_no_timeout : goal.returns-then-has_no_timeout
returns-then-has_no_timeout c = λ payload seen state knowledge.
    no_timeout (proof_evidence seen None state) (core_of c.args.records.now) c.args.mine.now (with_timeouts payload c.args.timeout_height c.args.timeout_time) c.if-has_no_timeout.ensures

pub returns-then-has_passed : goal.returns-then-has_passed
returns-then-has_passed c = λ payload seen state knowledge.
    too_late (proof_evidence seen None state) (core_of c.args.records.now) c.args.mine.now (with_timeouts payload c.args.timeout_height c.args.timeout_time) c.if-has_no_timeout.ensures
    (c.if-has_passed.ensures payload seen state knowledge)

pub returns : goal.returns
returns c = λ payload seen state knowledge.
    in_time (proof_evidence seen None state) (core_of c.args.records.now) c.args.mine.now (with_timeouts payload c.args.timeout_height c.args.timeout_time) c.if-has_no_timeout.ensures
    (c.if-has_passed.ensures payload seen state knowledge)
