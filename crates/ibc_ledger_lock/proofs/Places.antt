-- What was answered stands in the history, in the order of the calls.
use Rattle.std.proofs.Common.{◌≡◌, ◌∙◌, ◌<◌, ℕ, zero, suc, List, [], ◌∷◌, Some, ap, arith, length, slice_get, take}
use Rattle.std.specs.List.{slice_index_or}
use Rattle.ibc_machine.specs.declared.event.Event.{Event}
use Rattle.ibc_machine.specs.declared.reply.Reply.{Reply}
use Rattle.ibc_ledger.specs.LedgerModel.{LedgerModel}
use Rattle.ibc_ledger_lock.specs.Calls.{Call, written_by}
use Rattle.ibc_ledger_lock.specs.Calls.Call.{Unwritten, Written}
use Rattle.ibc_ledger_lock.specs.ReceiptsAndReadings.{AreInHistory, HasAnswered, IsAnsweredBy, ReceiptModel}
use Rattle.ibc_ledger_lock.proofs.Noting.{call_written}

-- where the call before which so many were made stands in the history
abbrev place_of : ℕ → List Call → ℕ
place_of n calls = length (written_by (take n calls))

stands_there : (calls : List Call) (n : ℕ) (event : Event) (given : Reply) → slice_get calls n ≡ Some (Written event given)
    → slice_get (written_by calls) (place_of n calls) ≡ Some (event, given)
stands_there [] n event given at = absurd cc
stands_there (Written f s ∷ calls) zero event given at =
    let first : f ≡ event = cc in
    let second : s ≡ given = cc in
    λ i. Some (first i, second i)
stands_there (Written f s ∷ calls) (suc n) event given at = stands_there calls n event given at
stands_there (Unwritten f ∷ calls) zero event given at = absurd cc
stands_there (Unwritten f ∷ calls) (suc n) event given at = stands_there calls n event given at

rises : (calls : List Call) (m n : ℕ) (event : Event) (given : Reply) → m < n → slice_get calls m ≡ Some (Written event given) → place_of m calls < place_of n calls
rises [] m n event given less at = absurd cc
rises (c ∷ calls) m zero event given less at = absurd (omega arith)
rises (Written f s ∷ calls) zero (suc n) event given less at = omega arith
rises (Unwritten f ∷ calls) zero (suc n) event given less at = absurd cc
rises (Written f s ∷ calls) (suc m) (suc n) event given less at =
    let rest = rises calls m n event given (omega arith) at in
    omega arith
rises (Unwritten f ∷ calls) (suc m) (suc n) event given less at = rises calls m n event given (omega arith) at

pub are_in_history : (receipts : List ReceiptModel) (held : LedgerModel) → HasAnswered receipts held → AreInHistory receipts held
are_in_history receipts held (calls, left, stand) = (
  λ n. place_of n calls,
  (λ k d within of. let told = slice_index_or receipts k d in
      ap (λ h. slice_get h (place_of told.place calls)) left ∙ stands_there calls told.place told.event told.reply (there k d within of)),
  (λ k d within of later less. let told = slice_index_or receipts k d in rises calls told.place later told.event told.reply less (there k d within of)),
)
  where
    there : (k : ℕ) (d : ReceiptModel) → k < length receipts → IsAnsweredBy held (slice_index_or receipts k d)
        → slice_get calls (slice_index_or receipts k d).place ≡ Some (Written (slice_index_or receipts k d).event (slice_index_or receipts k d).reply)
    there k d within of =
        let told = slice_index_or receipts k d in
        stand k d within of.0 ∙ ap Some (call_written told.event told.reply of.1)
