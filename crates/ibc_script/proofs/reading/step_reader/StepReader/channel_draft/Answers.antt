use Rattle.std.proofs.Common.{subst, sym}
use Rattle.serde_json.specs.View.{view}
use Rattle.ibc_ids.specs.Texts.{Text}
use Rattle.ibc_script.specs.Faults.{OnlyWhereNone}
use Rattle.ibc_script.specs.ScriptValues.{IsDraft}
use Rattle.ibc_script.specs.declared.draft.Draft.TheVariants as draft
use Rattle.ibc_script.proofs.StepWords.{no_channel}
use Rattle.ibc_script.proofs.reading.step_reader.StepReader.channel_draft.Goals as goal

pub returns-in-ChanOpenInit-clause-bad : goal.returns-in-ChanOpenInit-clause-bad
returns-in-ChanOpenInit-clause-bad c =
    subst (λ (k : Text). OnlyWhereNone c.chan_open_init.result (λ d. IsDraft k c.args.self.now.names.now (view c.args.self.now.object.now) (draft.Channel d))) (sym c.in-ChanOpenInit.is) c.chan_open_init.ensures.bad

pub returns-in-ChanOpenTry-clause-bad : goal.returns-in-ChanOpenTry-clause-bad
returns-in-ChanOpenTry-clause-bad c =
    subst (λ (k : Text). OnlyWhereNone c.chan_open_try.result (λ d. IsDraft k c.args.self.now.names.now (view c.args.self.now.object.now) (draft.Channel d))) (sym c.in-ChanOpenTry.is) c.chan_open_try.ensures.bad

pub returns-in-ChanOpenAck-clause-bad : goal.returns-in-ChanOpenAck-clause-bad
returns-in-ChanOpenAck-clause-bad c =
    subst (λ (k : Text). OnlyWhereNone c.chan_open_ack.result (λ d. IsDraft k c.args.self.now.names.now (view c.args.self.now.object.now) (draft.Channel d))) (sym c.in-ChanOpenAck.is) c.chan_open_ack.ensures.bad

pub returns-in-ChanOpenConfirm-clause-bad : goal.returns-in-ChanOpenConfirm-clause-bad
returns-in-ChanOpenConfirm-clause-bad c =
    subst (λ (k : Text). OnlyWhereNone c.chan_open_confirm.result (λ d. IsDraft k c.args.self.now.names.now (view c.args.self.now.object.now) (draft.Channel d))) (sym c.in-ChanOpenConfirm.is) c.chan_open_confirm.ensures.bad

pub returns-in-ChanCloseInit-clause-bad : goal.returns-in-ChanCloseInit-clause-bad
returns-in-ChanCloseInit-clause-bad c =
    subst (λ (k : Text). OnlyWhereNone c.chan_close_init.result (λ d. IsDraft k c.args.self.now.names.now (view c.args.self.now.object.now) (draft.Channel d))) (sym c.in-ChanCloseInit.is) c.chan_close_init.ensures.bad

pub returns-in-ChanCloseConfirm-clause-bad : goal.returns-in-ChanCloseConfirm-clause-bad
returns-in-ChanCloseConfirm-clause-bad c =
    subst (λ (k : Text). OnlyWhereNone c.chan_close_confirm.result (λ d. IsDraft k c.args.self.now.names.now (view c.args.self.now.object.now) (draft.Channel d))) (sym c.in-ChanCloseConfirm.is) c.chan_close_confirm.ensures.bad

pub returns-in_default-clause-bad : goal.returns-in_default-clause-bad
returns-in_default-clause-bad c bad = no_channel c.args.kind.now c.args.self.now.names.now (view c.args.self.now.object.now) c.in_default.not-ChanOpenInit c.in_default.not-ChanOpenTry c.in_default.not-ChanOpenAck c.in_default.not-ChanOpenConfirm c.in_default.not-ChanCloseInit c.in_default.not-ChanCloseConfirm
