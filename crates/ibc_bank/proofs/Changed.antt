-- Books that fit together still do so where one more amount is written that keeps them so.
use Rattle.std.proofs.Common.{◌≡◌, ℕ, ap, sym, ◌∙◌, subst, List, [], ◌∷◌, ◌++◌, Ordering, Result, Ok, Err, OnOk}
use Rattle.std.proofs.lemmas.List.Sums.{fold_push}
use Rattle.ibc_ids.specs.Texts.{Text, text_cmp, pair_cmp}
use Rattle.ibc_ids.specs.Maps.{Map}
use Rattle.ibc_machine.specs.ics20.Bank.{with_balance}
use Rattle.ibc_bank.specs.Amounts.{with_amount, with_amounts}
use Rattle.ibc_bank.specs.Moves.{BankState, with_burnt, with_balances}
use Rattle.ibc_bank.specs.BankModel.{IsBalanced, state_after_changes, totals_after}
use Rattle.ibc_bank.specs.declared.books.BankMaps.{BankMaps}
use Rattle.ibc_bank.specs.declared.changes.Changes.{Changes}

pub written_more : {K : Type 0} (order : K → K → Ordering) (changes : List (K × ℕ)) (k : K) (n : ℕ) (m : Map K ℕ)
    → with_amounts order (changes ++ (k, n) ∷ []) m ≡ with_amount order k n (with_amounts order changes m)
written_more {K} order changes k n m = fold_push (λ (a : Map K ℕ) (c : K × ℕ). with_amount order c.0 c.1 a) m changes (k, n)

-- the same maps fit together as well
pub balanced_as : (hand : Text → ℕ) (a b : BankState) (t u : Map Text ℕ) → b.balances ≡ a.balances → b.burnt ≡ a.burnt → u ≡ t
    → IsBalanced hand a t → IsBalanced hand b u
balanced_as hand a b t u e f g h =
    subst (λ x. IsBalanced hand b x) (sym g)
    (subst (λ (x : BankState). IsBalanced hand x t) (λ i. record { balances = sym e i; burnt = sym f i }) h)

module _ (hand : Text → ℕ) (old new : Changes) (books : BankMaps) where
  pub held_written : (holder denom : Text) (n : ℕ) → new.held.items ≡ old.held.items ++ ((holder, denom), n) ∷ [] → new.burnt.items ≡ old.burnt.items → new.totals.items ≡ old.totals.items
      → IsBalanced hand (with_balances (state_after_changes old books) (with_balance holder denom n (state_after_changes old books).balances)) (totals_after old books)
      → IsBalanced hand (state_after_changes new books) (totals_after new books)
  held_written holder denom n e f g =
      balanced_as hand (with_balances (state_after_changes old books) (with_balance holder denom n (state_after_changes old books).balances)) (state_after_changes new books) (totals_after old books) (totals_after new books)
      (ap (λ cs. with_amounts pair_cmp cs books.held.pairs) e ∙ written_more pair_cmp old.held.items (holder, denom) n books.held.pairs)
      (ap (λ cs. with_amounts text_cmp cs books.burnt.pairs) f) (ap (λ cs. with_amounts text_cmp cs books.totals.pairs) g)

  pub burnt_written : (denom : Text) (n : ℕ) → new.burnt.items ≡ old.burnt.items ++ (denom, n) ∷ [] → new.held.items ≡ old.held.items → new.totals.items ≡ old.totals.items
      → IsBalanced hand (with_burnt denom n (state_after_changes old books)) (totals_after old books) → IsBalanced hand (state_after_changes new books) (totals_after new books)
  burnt_written denom n e f g =
      balanced_as hand (with_burnt denom n (state_after_changes old books)) (state_after_changes new books) (totals_after old books) (totals_after new books)
      (ap (λ cs. with_amounts pair_cmp cs books.held.pairs) f)
      (ap (λ cs. with_amounts text_cmp cs books.burnt.pairs) e ∙ written_more text_cmp old.burnt.items denom n books.burnt.pairs)
      (ap (λ cs. with_amounts text_cmp cs books.totals.pairs) g)

  pub total_written : (denom : Text) (n : ℕ) → new.totals.items ≡ old.totals.items ++ (denom, n) ∷ [] → new.held.items ≡ old.held.items → new.burnt.items ≡ old.burnt.items
      → IsBalanced hand (state_after_changes old books) (with_amount text_cmp denom n (totals_after old books)) → IsBalanced hand (state_after_changes new books) (totals_after new books)
  total_written denom n e f g =
      balanced_as hand (state_after_changes old books) (state_after_changes new books) (with_amount text_cmp denom n (totals_after old books)) (totals_after new books)
      (ap (λ cs. with_amounts pair_cmp cs books.held.pairs) f) (ap (λ cs. with_amounts text_cmp cs books.burnt.pairs) g)
      (ap (λ cs. with_amounts text_cmp cs books.totals.pairs) e ∙ written_more text_cmp old.totals.items denom n books.totals.pairs)

-- a fact on a success, from one that follows
pub on_ok : {T E P Q : Type 0} (r : Result T E) → (P → Q) → OnOk r P → OnOk r Q
on_ok (Ok x) f p = f p
on_ok (Err e) f p = tt
