-- What receipts come to.
use Rattle.std.specs.Prelude.{◌≡◌, ◌==◌, ℕ, Bool, true, false, List, Some, count_by, length, map, slice_get}
use Rattle.std.specs.List.{range_with_len}
use Rattle.ibc_ids.specs.Refusals.{number_of}
use Rattle.ibc_machine.specs.declared.reply.Reply.{Reply}
use Rattle.ibc_machine.specs.declared.reply.Reply.TheVariants as reply
use Rattle.ibc_ledger_lock.specs.ReceiptsAndReadings.{ReceiptModel}
use Rattle.ibc_script_races.specs.KeptReceipts.{AreKept}
use Rattle.ibc_race_counts.specs.declared.counting.ReceiptCounts.{ReceiptCounts}

abbrev pub is_accepted : Reply → Bool
is_accepted (reply.Ok given) = true
is_accepted (reply.No why) = false

-- whether a reply is the refusal of a number
abbrev pub is_refused : ℕ → Reply → Bool
is_refused number (reply.Ok given) = false
is_refused number (reply.No why) = number_of why == number

-- how many receipts tell the refusal of a number
abbrev pub refused_with : List ReceiptModel → ℕ → ℕ
refused_with receipts number = count_by (λ (told : ReceiptModel). is_refused number told.reply) receipts

-- how many receipts tell each refusal, by its number
abbrev pub refused_counts : List ReceiptModel → List ℕ
refused_counts receipts = map (refused_with receipts) (range_with_len 0 32)

-- so many receipts there are, so many tell that the event was accepted, and so many that it was refused, by the refusals' numbers
pub record AreCountsOf (receipts : List ReceiptModel) (counts : ReceiptCounts) : Type 0 where
  pub asked : counts.asked ≡ length receipts
  pub accepted : counts.accepted ≡ count_by (λ (told : ReceiptModel). is_accepted told.reply) receipts
  pub refused : counts.refused.items ≡ map (refused_with receipts) (range_with_len 0 32)

-- the chain of a receipt stands at its number's place
abbrev pub IsThere : List ℕ → ReceiptModel → Type 0
IsThere numbers told = slice_get numbers told.chain ≡ Some told.chain

-- these are receipts of chains of these numbers, as one thread keeps them, and this is what they come to
abbrev pub IsCountedOn : List ℕ → List ReceiptModel → ReceiptCounts → Type 0
IsCountedOn numbers receipts counts = AreKept numbers receipts × AreCountsOf receipts counts
