use Rattle.ibc_ledger.proofs.Common.{refl, sym, ◌∙◌}
use Rattle.ibc_ledger.proofs.Answered.{part_answered}
use Rattle.ibc_ledger.proofs.BankedApps.{ack_by_bank, ack_by_notes}
use Rattle.ibc_ledger.proofs.host_state.HostState.ack_packet.Goals as goal

pub returns-then-is_transfer_port : goal.returns-then-is_transfer_port
returns-then-is_transfer_port c =
    part_answered _ _ c.requires _ _ _ c.acknowledge.new.app (ack_by_bank c.args.self.now c.args.message.now c.requires (sym c.is_transfer_port.ensures ∙ c.if-is_transfer_port.true)) _ _ c.acknowledge.result
    (c.acknowledge.ensures c.args.self.now.number c.args.self.now.chains) (λ _. refl) _ c.of_nothing.ensures

pub returns-else-is_transfer_port : goal.returns-else-is_transfer_port
returns-else-is_transfer_port c =
    part_answered _ _ c.requires _ _ _ c.acknowledge-else-is_transfer_port.new.app (ack_by_notes c.args.self.now c.args.message.now c.requires (sym c.is_transfer_port.ensures ∙ c.if-is_transfer_port.false)) _ _ c.acknowledge-else-is_transfer_port.result
    (c.acknowledge-else-is_transfer_port.ensures c.args.self.now.number c.args.self.now.chains) (λ _. refl) _ c.of_nothing-else-is_transfer_port.ensures
