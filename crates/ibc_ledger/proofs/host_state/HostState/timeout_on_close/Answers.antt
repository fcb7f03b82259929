use Rattle.ibc_ledger.proofs.Common.{refl, sym, ◌∙◌}
use Rattle.ibc_ledger.proofs.Answered.{part_answered}
use Rattle.ibc_ledger.proofs.BankedApps.{timeout_on_close_by_bank, timeout_on_close_by_notes}
use Rattle.ibc_ledger.proofs.host_state.HostState.timeout_on_close.Goals as goal

pub returns-then-is_transfer_port : goal.returns-then-is_transfer_port
returns-then-is_transfer_port c =
    part_answered _ _ c.requires _ _ _ c.timeout_on_close.new.app (timeout_on_close_by_bank c.args.self.now c.args.message.now c.requires (sym c.is_transfer_port.ensures ∙ c.if-is_transfer_port.true)) _ _ c.timeout_on_close.result
    (c.timeout_on_close.ensures c.args.self.now.number c.args.self.now.chains) (λ _. refl) _ c.of_nothing.ensures

pub returns-else-is_transfer_port : goal.returns-else-is_transfer_port
returns-else-is_transfer_port c =
    part_answered _ _ c.requires _ _ _ c.timeout_on_close-else-is_transfer_port.new.app (timeout_on_close_by_notes c.args.self.now c.args.message.now c.requires (sym c.is_transfer_port.ensures ∙ c.if-is_transfer_port.false)) _ _ c.timeout_on_close-else-is_transfer_port.result
    (c.timeout_on_close-else-is_transfer_port.ensures c.args.self.now.number c.args.self.now.chains) (λ _. refl) _ c.of_nothing-else-is_transfer_port.ensures
