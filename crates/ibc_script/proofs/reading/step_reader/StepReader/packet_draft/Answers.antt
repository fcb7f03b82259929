use Rattle.std.proofs.Common.{subst, sym}
use Rattle.serde_json.specs.View.{view}
use Rattle.ibc_ids.specs.Texts.{Text}
use Rattle.ibc_script.specs.Faults.{OnlyWhereNone}
use Rattle.ibc_script.specs.ScriptValues.{IsDraft}
use Rattle.ibc_script.specs.declared.draft.Draft.TheVariants as draft
use Rattle.ibc_script.proofs.StepWords.{no_packet}
use Rattle.ibc_script.proofs.reading.step_reader.StepReader.packet_draft.Goals as goal

pub returns-in-Transfer-clause-bad : goal.returns-in-Transfer-clause-bad
returns-in-Transfer-clause-bad c =
    subst (λ (k : Text). OnlyWhereNone c.transfer.result (λ d. IsDraft k c.args.self.now.names.now (view c.args.self.now.object.now) (draft.Packet d))) (sym c.in-Transfer.is) c.transfer.ensures.bad

pub returns-in-TransferMany-clause-bad : goal.returns-in-TransferMany-clause-bad
returns-in-TransferMany-clause-bad c =
    subst (λ (k : Text). OnlyWhereNone c.transfer_many.result (λ d. IsDraft k c.args.self.now.names.now (view c.args.self.now.object.now) (draft.Packet d))) (sym c.in-TransferMany.is) c.transfer_many.ensures.bad

pub returns-in-SendNote-clause-bad : goal.returns-in-SendNote-clause-bad
returns-in-SendNote-clause-bad c =
    subst (λ (k : Text). OnlyWhereNone c.send_note.result (λ d. IsDraft k c.args.self.now.names.now (view c.args.self.now.object.now) (draft.Packet d))) (sym c.in-SendNote.is) c.send_note.ensures.bad

pub returns-in-RecvPacket-clause-bad : goal.returns-in-RecvPacket-clause-bad
returns-in-RecvPacket-clause-bad c =
    subst (λ (k : Text). OnlyWhereNone c.recv_packet.result (λ d. IsDraft k c.args.self.now.names.now (view c.args.self.now.object.now) (draft.Packet d))) (sym c.in-RecvPacket.is) c.recv_packet.ensures.bad

pub returns-in-AckPacket-clause-bad : goal.returns-in-AckPacket-clause-bad
returns-in-AckPacket-clause-bad c =
    subst (λ (k : Text). OnlyWhereNone c.ack_packet.result (λ d. IsDraft k c.args.self.now.names.now (view c.args.self.now.object.now) (draft.Packet d))) (sym c.in-AckPacket.is) c.ack_packet.ensures.bad

pub returns-in-Timeout-clause-bad : goal.returns-in-Timeout-clause-bad
returns-in-Timeout-clause-bad c =
    subst (λ (k : Text). OnlyWhereNone c.timeout.result (λ d. IsDraft k c.args.self.now.names.now (view c.args.self.now.object.now) (draft.Packet d))) (sym c.in-Timeout.is) c.timeout.ensures.bad

pub returns-in-TimeoutOnClose-clause-bad : goal.returns-in-TimeoutOnClose-clause-bad
returns-in-TimeoutOnClose-clause-bad c =
    subst (λ (k : Text). OnlyWhereNone c.timeout_on_close.result (λ d. IsDraft k c.args.self.now.names.now (view c.args.self.now.object.now) (draft.Packet d))) (sym c.in-TimeoutOnClose.is) c.timeout_on_close.ensures.bad

pub returns-in_default-clause-bad : goal.returns-in_default-clause-bad
returns-in_default-clause-bad c bad = no_packet c.args.kind.now c.args.self.now.names.now (view c.args.self.now.object.now) c.in_default.not-Transfer c.in_default.not-TransferMany c.in_default.not-SendNote c.in_default.not-RecvPacket c.in_default.not-AckPacket c.in_default.not-Timeout c.in_default.not-TimeoutOnClose
