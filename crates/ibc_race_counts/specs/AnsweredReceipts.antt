-- The receipts of what one thread asked.
use Rattle.std.specs.Prelude.{◌≡◌, List, map}
use Rattle.std.specs.List.{All}
use Rattle.ibc_ids.specs.declared.refusal.Refusal.TheVariants.{NoMemory}
use Rattle.ibc_machine.specs.declared.event.Event.{Event}
use Rattle.ibc_machine.specs.declared.reply.Reply.{Reply}
use Rattle.ibc_machine.specs.declared.reply.Reply.TheVariants as reply
use Rattle.ibc_machine.specs.ledger.Ledgers.{chain_of}
use Rattle.ibc_ledger_lock.specs.ReceiptsAndReadings.{ReceiptModel}
use Rattle.ibc_script_races.specs.KeptReceipts.{AreInOrder, told_by}
use Rattle.ibc_script_races.specs.Racing.{IsAsked}

-- the receipt is of its event's chain, and memory didn't run out
pub record IsAnsweredReceipt (told : ReceiptModel) : Type 0 where
  pub of_event : told.chain ≡ chain_of told.event
  pub answered : told.reply ≡ reply.No NoMemory → ⊥

-- such receipts, each behind the earlier ones of its chain
abbrev pub AreAnsweredReceipts : List ReceiptModel → Type 0
AreAnsweredReceipts receipts = AreInOrder receipts × All IsAnsweredReceipt receipts

-- asked for an event, the thread got the reply and kept its receipt behind the others
abbrev pub IsAskedAndKept : List ReceiptModel → Event → List ReceiptModel → Reply → Type 0
IsAskedAndKept old event new = λ reply. IsAsked (map told_by old) event reply (map told_by new)
