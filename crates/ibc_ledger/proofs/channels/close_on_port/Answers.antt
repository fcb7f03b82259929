-- The application that is asked is the one of the port.
use Rattle.ibc_ledger.proofs.Common.{true, false, sym, ◌∙◌}
use Rattle.ibc_ledger.proofs.Ports.{closed_by_port}
use Rattle.ibc_ledger.proofs.channels.close_on_port.Goals as goal

pub returns-then-is_transfer_port : goal.returns-then-is_transfer_port
returns-then-is_transfer_port c = closed_by_port _ _ _ _ c.args.message.now true (sym c.if-is_transfer_port.true ∙ c.is_transfer_port.ensures) c.close_init.ensures

pub returns-else-is_transfer_port : goal.returns-else-is_transfer_port
returns-else-is_transfer_port c = closed_by_port _ _ _ _ c.args.message.now false (sym c.if-is_transfer_port.false ∙ c.is_transfer_port.ensures) c.close_init-else-is_transfer_port.ensures
