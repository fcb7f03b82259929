-- What receipts tell stands in a ledger's history, in the receipts' order.
use Rattle.std.proofs.Common.{◌≡◌, ◌∙◌, ◌+◌, ◌==◌, ◌<◌, ◌≤◌, true, false, cond, ℕ, zero, suc, List, [], ◌∷◌, Some, ap, arith, eqb-true, inl, inr, map, refl, slice_get, sym, subst}
use Rattle.std.specs.Prelude.{⊤}
use Rattle.ibc_machine.specs.ledger.Ledgers.{chain_of}
use Rattle.ibc_machine.specs.promises.Histories.{Happened, history_of}
use Rattle.ibc_ledger.specs.LedgerModel.{LedgerModel}
use Rattle.ibc_ledger.specs.SentPackets.{happened_on}
use Rattle.ibc_ledger_lock.specs.ReceiptsAndReadings.{AreInHistory, HasAnswered, IsAnsweredBy, ReceiptModel}
use Rattle.ibc_ledger_lock.proofs.Places.{are_in_history}
use Rattle.ibc_race.proofs.Booked.{at_place}
use Rattle.ibc_script_races.specs.KeptReceipts.{AreInOrder, AreKept, IsKept, told_by}
use Rattle.ibc_script_races.specs.Racing.{StandInOrder}

-- ---- elements at rising places

-- a place, and what should stand there
abbrev Placed : Type 0
Placed = ℕ × Happened

-- the places rise from this one on
abbrev AreRising : ℕ → List Placed → Type 0
AreRising n [] = ⊤
AreRising n (p ∷ ps) = (n ≤ p.0) × AreRising (p.0 + 1) ps

-- it stands there in a list whose first place is n
abbrev StandsAt : ℕ → List Happened → Placed → Type 0
StandsAt n xs p = (k : ℕ) × (p.0 ≡ n + k) × (slice_get xs k ≡ Some p.1)

abbrev AllStand : ℕ → List Happened → List Placed → Type 0
AllStand n xs [] = ⊤
AllStand n xs (p ∷ ps) = StandsAt n xs p × AllStand n xs ps

rising_from : (m n : ℕ) (ps : List Placed) → m ≤ n → AreRising n ps → AreRising m ps
rising_from m n [] low rising = tt
rising_from m n (p ∷ ps) low rising =
    let first = rising.0 in
    (omega (arith, low, first), rising.1)

-- the list without its first element
one_less : (n k : ℕ) (x : Happened) (xs : List Happened) (p : Placed) → n + 1 ≤ p.0 → p.0 ≡ n + k → slice_get (x ∷ xs) k ≡ Some p.1 → StandsAt (n + 1) xs p
one_less n zero x xs p low place at = absurd (omega (arith, low, place))
one_less n (suc k) x xs p low place at = (k, omega (arith, place), at)

all_less : (n : ℕ) (x : Happened) (xs : List Happened) (ps : List Placed) → AreRising (n + 1) ps → AllStand n (x ∷ xs) ps → AllStand (n + 1) xs ps
all_less n x xs [] rising stand = tt
all_less n x xs (p ∷ ps) rising stand =
    let first = rising.0 in
    let at = stand.0 in (
      one_less n at.0 x xs p first at.1 at.2,
      all_less n x xs ps (rising_from (n + 1) (p.0 + 1) ps (omega (arith, first)) rising.1) stand.1,
    )

-- what should stand there
abbrev elements : List Placed → List Happened
elements ps = map (λ (p : Placed). p.1) ps

one_more : (n : ℕ) (x : Happened) (xs : List Happened) (ps : List Placed)
    → ((qs : List Placed) → AreRising (n + 1) qs → AllStand (n + 1) xs qs → StandInOrder (elements qs) xs)
    → AreRising n ps → AllStand n (x ∷ xs) ps → StandInOrder (elements ps) (x ∷ xs)
one_more n x xs [] on rising stand = inr (on [] tt tt)
one_more n x xs (p ∷ ps) on rising stand =
    elim (stand.0.0) as (λ k. p.0 ≡ n + k → slice_get (x ∷ xs) k ≡ Some p.1 → StandInOrder (elements (p ∷ ps)) (x ∷ xs)) [
      | zero ↦ λ place at.
          let here : p.1 ≡ x = cc in
          let rest = rising_from (n + 1) (p.0 + 1) ps (omega (arith, place)) rising.1 in
          inl (elements ps, ap (λ (h : Happened). h ∷ elements ps) here, on ps rest (all_less n x xs ps rest stand.1))
      | suc k ↦ λ place at.
          let later : AreRising (n + 1) (p ∷ ps) = (omega (arith, place), rising.1) in
          inr (on (p ∷ ps) later (all_less n x xs (p ∷ ps) later stand))
    ] stand.0.1 stand.0.2

stand_on : (n : ℕ) (xs : List Happened) (ps : List Placed) → AreRising n ps → AllStand n xs ps → StandInOrder (elements ps) xs
stand_on n [] [] rising stand = refl
stand_on n [] (p ∷ ps) rising stand =
    let at = stand.0.2 in
    absurd cc
stand_on n (x ∷ xs) ps rising stand = one_more n x xs ps (λ qs rest there. stand_on (n + 1) xs qs rest there) rising stand

-- ---- receipts

-- what is told stands at rising places
record Picked (n : ℕ) (xs told : List Happened) : Type 0 where
  ps : List Placed
  tells : elements ps ≡ told
  rising : AreRising n ps
  stand : AllStand 0 xs ps

module _ (held : LedgerModel) (at : ℕ → ℕ) where
  -- what is so of each receipt of the ledger
  abbrev Stands : ReceiptModel → Type 0
  Stands told = IsAnsweredBy held told → slice_get (happened_on held.ledger) (at told.place) ≡ Some (told.event, told.reply)

  abbrev Rises : ReceiptModel → Type 0
  Rises told = IsAnsweredBy held told → (later : ℕ) → told.place < later → at told.place < at later

  picked : (numbers : List ℕ) (n : ℕ) (receipts : List ReceiptModel) → AreInOrder receipts → ((k : ℕ) (told : ReceiptModel) → slice_get receipts k ≡ Some told → IsKept numbers told × Stands told × Rises told)
      → ((k : ℕ) (told : ReceiptModel) → slice_get receipts k ≡ Some told → told.chain ≡ held.ledger.chain → n ≤ at told.place)
      → Picked n (happened_on held.ledger) (history_of held.ledger.chain (map told_by receipts))
  picked numbers n [] order each low = record { ps = []; tells = refl; rising = tt; stand = tt }
  picked numbers n (told ∷ receipts) order each low =
      let rest = history_of held.ledger.chain (map told_by receipts) in
      let first = each 0 told refl in
      let tail : AreInOrder receipts = λ i j a b less at_i at_j. order (suc i) (suc j) a b (omega (arith, less)) at_i at_j in
      elim (chain_of told.event == held.ledger.chain) as (λ b. (chain_of told.event == held.ledger.chain) ≡ b → Picked n (happened_on held.ledger) (cond b (told_by told ∷ rest) rest)) [
        | true ↦ λ is.
            let of : told.chain ≡ held.ledger.chain = first.0.of_event ∙ eqb-true (chain_of told.event) held.ledger.chain is in
            let answered : IsAnsweredBy held told = (of, first.0.answered) in
            let behind : (k : ℕ) (later : ReceiptModel) → slice_get receipts k ≡ Some later → later.chain ≡ held.ledger.chain → at told.place < at later.place =
            λ k later there same. first.2 answered later.place (order 0 (suc k) told later (omega arith) refl there (of ∙ sym same)) in
            let more = picked numbers (at told.place + 1) receipts tail (λ k. each (suc k)) (λ k later there same. let less = behind k later there same in omega (arith, less)) in
            record {
              ps = (at told.place, told_by told) ∷ more.ps;
              tells = ap (λ (l : List Happened). told_by told ∷ l) more.tells;
              rising = (low 0 told refl of, more.rising);
              stand = ((at told.place, omega arith, first.1 answered), more.stand);
            }
        | false ↦ λ _. picked numbers n receipts tail (λ k. each (suc k)) (λ k. low (suc k))
      ] refl

pub stand_there : (numbers : List ℕ) (receipts : List ReceiptModel) (held : LedgerModel) → AreKept numbers receipts → HasAnswered receipts held
    → StandInOrder (history_of held.ledger.chain (map told_by receipts)) (happened_on held.ledger)
stand_there numbers receipts held kept answered =
    let there : AreInHistory receipts held = are_in_history receipts held answered in
    let p = picked held there.0 numbers 0 receipts kept.0
    (λ k told is. (at_place (IsKept numbers) receipts k told kept.1 is, at_place (Stands held there.0) receipts k told there.1 is, at_place (Rises held there.0) receipts k told there.2 is))
    (λ k told is of. omega arith) in
    subst (λ (l : List Happened). StandInOrder l (happened_on held.ledger)) p.tells (stand_on 0 (happened_on held.ledger) p.ps p.rising p.stand)
