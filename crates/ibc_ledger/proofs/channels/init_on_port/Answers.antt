-- The application that is asked is the one of the port.
use Rattle.ibc_ledger.proofs.Common.{true, false, refl, sym, ◌∙◌, chan_open_init}
use Rattle.ibc_ledger.proofs.Ports.{opened_by_port}
use Rattle.ibc_ledger.proofs.channels.init_on_port.Goals as goal

pub returns-then-is_transfer_port-clause-answer : goal.returns-then-is_transfer_port-clause-answer
returns-then-is_transfer_port-clause-answer c =
    opened_by_port _ _ _ _ c.args.message.now.port (λ known opens. chan_open_init known opens c.args.message.now) true (sym c.if-is_transfer_port.true ∙ c.is_transfer_port.ensures) true refl c.open_init.ensures.answer

pub returns-else-is_transfer_port-clause-answer : goal.returns-else-is_transfer_port-clause-answer
returns-else-is_transfer_port-clause-answer c =
    opened_by_port _ _ _ _ c.args.message.now.port (λ known opens. chan_open_init known opens c.args.message.now) false (sym c.if-is_transfer_port.false ∙ c.is_transfer_port.ensures) _ c.notes_on-notes.ensures
    c.open_init-else-is_transfer_port.ensures.answer
