-- What relayers see of a ledger (ICS 18, "Relayer algorithm").
use Rattle.std.specs.Prelude.{List}
use Rattle.ibc_machine.specs.ledger.Ledgers.{Ledger, state_of}
use Rattle.ibc_machine.specs.ics18.Relay.{View, plan, view_of}
use Rattle.ibc_wire.specs.declared.messages.Message.{Message}
use Rattle.ibc_ledger.specs.LedgerModel.{LedgerModel}

abbrev pub view_of_ledger : Ledger → View
view_of_ledger ledger = view_of ledger.chain (state_of ledger).chain

-- the messages that a relayer owes the second of two ledgers, which prove from the first
abbrev pub plan_between : LedgerModel → LedgerModel → List Message
plan_between first second = plan (view_of_ledger first.ledger) (view_of_ledger second.ledger)
