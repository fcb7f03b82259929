use Rattle.ibc_ledger.proofs.Common.{refl, sym, ◌∙◌}
use Rattle.ibc_ledger.proofs.Answered.{part_answered}
use Rattle.ibc_ledger.proofs.BankedApps.{recv_by_bank, recv_by_notes}
use Rattle.ibc_ledger.proofs.host_state.HostState.recv_packet.Goals as goal

pub returns-then-is_transfer_port : goal.returns-then-is_transfer_port
returns-then-is_transfer_port c =
    part_answered _ _ c.requires _ _ _ c.recv.new.app (recv_by_bank c.args.self.now c.args.message.now c.requires (sym c.is_transfer_port.ensures ∙ c.if-is_transfer_port.true)) _ _ c.recv.result
    (c.recv.ensures.answer c.args.self.now.number c.args.self.now.chains) (λ _. refl) _ c.of_ack.ensures

pub returns-else-is_transfer_port : goal.returns-else-is_transfer_port
returns-else-is_transfer_port c =
    part_answered _ _ c.requires _ _ _ c.recv-else-is_transfer_port.new.app (recv_by_notes c.args.self.now c.args.message.now c.requires (sym c.is_transfer_port.ensures ∙ c.if-is_transfer_port.false)) _ _ c.recv-else-is_transfer_port.result
    (c.recv-else-is_transfer_port.ensures.answer c.args.self.now.number c.args.self.now.chains) (λ _. refl) _ c.of_ack-else-is_transfer_port.ensures
