-- Moves one after another: the moves up to a place and the one there, and a refusal there.
use Rattle.std.proofs.Common.{◌≡◌, ℕ, zero, suc, ◌<◌, refl, ap, sym, ◌∙◌, List, [], ◌∷◌, length, get_or, take, Ok, Err, ◌⊎◌, inl, inr, arith}
use Rattle.ibc_ids.specs.declared.refusal.Refusal.{Refusal}
use Rattle.ibc_ids.specs.declared.refusal.Refusal.TheVariants.{NoMemory}
use Rattle.ibc_machine.specs.chain.Checks.{Checked, go_on}
use Rattle.ibc_bank.specs.Moves.{BankState, after_move, after_moves}
use Rattle.ibc_bank.specs.declared.moves.Move.{Move}

alone : (r : Checked BankState) → go_on r (λ bank. Ok bank) ≡ r
unfolding go_on
alone (Ok bank) = refl
alone (Err refusal) = refl

stopped : (r : Checked BankState) (refusal : Refusal) (rest : BankState → Checked BankState) → r ≡ Err refusal → go_on r rest ≡ Err refusal
unfolding go_on
stopped (Ok bank) refusal rest e = absurd (cc e)
stopped (Err other) refusal rest e = cc e

-- after the moves before a place
pub record At (moves : List Move) (i : ℕ) (step : Move) (before now : BankState) : Type 0 where
  pub more : after_moves (take (suc i) moves) before ≡ after_move step now
  pub ends : (refusal : Refusal) → after_move step now ≡ Err refusal → after_moves moves before ≡ Err refusal

pub at_place : (moves : List Move) (i : ℕ) (step : Move) → i < length moves → step ≡ get_or moves i step → (before now : BankState)
    → after_moves (take i moves) before ≡ Ok now → At moves i step before now
unfolding go_on
at_place [] i step inside here before now e = absurd (omega arith)
at_place (m ∷ ms) zero step inside here before now e =
    let same : before ≡ now = cc e in
    let first : after_move m before ≡ after_move step now = ap (λ s. after_move s before) (sym here) ∙ ap (λ b. after_move step b) same in
    record {
      more = alone (after_move m before) ∙ first;
      ends = λ refusal refused. stopped (after_move m before) refusal (after_moves ms) (first ∙ refused);
    }
at_place (m ∷ ms) (suc i) step inside here before now e =
    let parts = go (λ b rest. at_place ms i step (omega arith) here b now rest) (after_move m before) e in
    record { more = parts.0; ends = parts.1 }
  where
    go : ((b : BankState) → after_moves (take i ms) b ≡ Ok now → At ms i step b now) → (r : Checked BankState)
        → go_on r (after_moves (take i ms)) ≡ Ok now
        → (go_on r (after_moves (take (suc i) ms)) ≡ after_move step now) × ((refusal : Refusal) → after_move step now ≡ Err refusal → go_on r (after_moves ms) ≡ Err refusal)
    go ih (Ok b) e = ((ih b e).more, (ih b e).ends)
    go ih (Err refusal) e = absurd (cc e)

-- a refusal at the place is that of all the moves
pub refused_there : {moves : List Move} {i : ℕ} {step : Move} {before now : BankState} → At moves i step before now → (e : Refusal)
    → (e ≡ NoMemory) ⊎ (after_move step now ≡ Err e) → (e ≡ NoMemory) ⊎ (after_moves moves before ≡ Err e)
refused_there place e (inl memory) = inl memory
refused_there place e (inr refused) = inr (place.ends e refused)
