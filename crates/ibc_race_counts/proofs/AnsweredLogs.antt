-- The receipts of one thread stay such receipts.
use Rattle.std.proofs.Common.{◌≡◌, ◌∙◌, ◌∷◌, [], ◌++◌, ℕ, List, Result, Ok, Err, IfOk, OnErr, OnOk, ap, sym, subst}
use Rattle.std.specs.List.{All}
use Rattle.std.proofs.lemmas.List.Elements.{All-push}
use Rattle.ibc_ids.specs.declared.refusal.Refusal.TheVariants.{NoMemory}
use Rattle.ibc_machine.specs.declared.event.Event.{Event}
use Rattle.ibc_machine.specs.declared.reply.Reply.{Reply}
use Rattle.ibc_machine.specs.declared.reply.Reply.TheVariants as reply
use Rattle.ibc_machine.specs.ledger.Ledgers.{chain_of}
use Rattle.ibc_ledger_lock.specs.ReceiptsAndReadings.{IsBehind, IsReceiptOf, ReceiptModel}
use Rattle.ibc_script_races.specs.KeptReceipts.{AreKept}
use Rattle.ibc_script_races.proofs.Receipts.{in_order}
use Rattle.ibc_race_counts.specs.AnsweredReceipts.{AreAnsweredReceipts, IsAnsweredReceipt}
use Rattle.ibc_race_counts.specs.CountedReceipts.{IsThere}

-- one receipt more is kept, or none is
pub stay_answered : {E : Type 0} (result : Result Reply E) (told : ReceiptModel) (event : Event) (old new : List ReceiptModel) → AreAnsweredReceipts old
    → IsReceiptOf event told → All (IsBehind told) old → OnOk result (new ≡ old ++ told ∷ []) → OnErr result (new ≡ old) → IfOk result (λ given. given ≡ told.reply)
    → IfOk result (λ given. given ≡ reply.No NoMemory → ⊥) → AreAnsweredReceipts new
stay_answered (Ok given) told event old new are is behind pushed left same answered =
    let one : IsAnsweredReceipt told = record { of_event = is.0 ∙ ap chain_of (sym is.1); answered = λ none. answered (same ∙ none) } in
    subst AreAnsweredReceipts (sym pushed) (in_order old told are.0 behind, All-push IsAnsweredReceipt old told are.1 one)
stay_answered (Err refusal) told event old new are is behind pushed left same answered = subst AreAnsweredReceipts (sym left) are

-- the receipts of one thread, whose chains are there
pub are_kept : (numbers : List ℕ) (receipts : List ReceiptModel) → AreAnsweredReceipts receipts → All (IsThere numbers) receipts → AreKept numbers receipts
are_kept numbers receipts are there =
    (are.0, λ k d within. record { of_event = (are.1 k d within).of_event; there = there k d within; answered = (are.1 k d within).answered })
