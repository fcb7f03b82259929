use Rattle.std.proofs.Common.{subst, sym}
use Rattle.serde_json.specs.View.{view}
use Rattle.ibc_ids.specs.Texts.{Text}
use Rattle.ibc_script.specs.Faults.{OnlyWhereNone}
use Rattle.ibc_script.specs.ScriptValues.{IsDraft}
use Rattle.ibc_script.specs.declared.draft.Draft.TheVariants as draft
use Rattle.ibc_script.proofs.StepWords.{no_connection}
use Rattle.ibc_script.proofs.reading.step_reader.StepReader.connection_draft.Goals as goal

pub returns-in-ConnOpenInit-clause-bad : goal.returns-in-ConnOpenInit-clause-bad
returns-in-ConnOpenInit-clause-bad c =
    subst (λ (k : Text). OnlyWhereNone c.conn_open_init.result (λ d. IsDraft k c.args.self.now.names.now (view c.args.self.now.object.now) (draft.Connection d))) (sym c.in-ConnOpenInit.is) c.conn_open_init.ensures.bad

pub returns-in-ConnOpenTry-clause-bad : goal.returns-in-ConnOpenTry-clause-bad
returns-in-ConnOpenTry-clause-bad c =
    subst (λ (k : Text). OnlyWhereNone c.conn_open_try.result (λ d. IsDraft k c.args.self.now.names.now (view c.args.self.now.object.now) (draft.Connection d))) (sym c.in-ConnOpenTry.is) c.conn_open_try.ensures.bad

pub returns-in-ConnOpenAck-clause-bad : goal.returns-in-ConnOpenAck-clause-bad
returns-in-ConnOpenAck-clause-bad c =
    subst (λ (k : Text). OnlyWhereNone c.conn_open_ack.result (λ d. IsDraft k c.args.self.now.names.now (view c.args.self.now.object.now) (draft.Connection d))) (sym c.in-ConnOpenAck.is) c.conn_open_ack.ensures.bad

pub returns-in-ConnOpenConfirm-clause-bad : goal.returns-in-ConnOpenConfirm-clause-bad
returns-in-ConnOpenConfirm-clause-bad c =
    subst (λ (k : Text). OnlyWhereNone c.conn_open_confirm.result (λ d. IsDraft k c.args.self.now.names.now (view c.args.self.now.object.now) (draft.Connection d))) (sym c.in-ConnOpenConfirm.is) c.conn_open_confirm.ensures.bad

pub returns-in_default-clause-bad : goal.returns-in_default-clause-bad
returns-in_default-clause-bad c bad = no_connection c.args.kind.now c.args.self.now.names.now (view c.args.self.now.object.now) c.in_default.not-ConnOpenInit c.in_default.not-ConnOpenTry c.in_default.not-ConnOpenAck c.in_default.not-ConnOpenConfirm
