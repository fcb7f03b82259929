-- What holds of each entry of a map holds of what is found, and stays so when entries are put and removed.
use Rattle.std.proofs.Common.{◌≡◌, ℕ, true, cond, eqb, List, [], ◌∷◌, refl, sym, subst, Some, Ordering, Less, Equal, Greater, is_eq, eqb-true, inl, inr}
use Rattle.std.specs.List.{AllByRecursion, list_any}
use Rattle.std.specs.Ordering.{match_ordering, nat_cmp}
use Rattle.std.proofs.lemmas.Bool.{or_cases, false≢true}
use Rattle.ibc_ids.specs.Maps.{at, with, without}
use Rattle.ibc_machine.specs.chain.Records.{is_one_of, with_number}

module _ {K V : Type 0} (order : K → K → Ordering) (P : K × V → Type 0) where
  pub all_with : ((x y : K) → order x y ≡ Equal → x ≡ y) → (k : K) (v : V) (es : List (K × V)) → P (k, v) → AllByRecursion P es → AllByRecursion P (with order k v es)
  all_with tied k v [] p h = (p, tt)
  all_with tied k v (e ∷ es) p h =
      elim (order k e.0) as (λ o. order k e.0 ≡ o → AllByRecursion P (match_ordering o ((k, v) ∷ e ∷ es) ((e.0, v) ∷ es) (e ∷ with order k v es))) [
        | Less ↦ λ _. (p, h)
        | Equal ↦ λ is. (subst (λ x. P (x, v)) (tied k e.0 is) p, h.1)
        | Greater ↦ λ _. (h.0, all_with tied k v es p h.1)
      ] refl

  pub all_without : (k : K) (es : List (K × V)) → AllByRecursion P es → AllByRecursion P (without order k es)
  all_without k [] h = tt
  all_without k (e ∷ es) h =
      elim (order k e.0) as (λ o. AllByRecursion P (cond (is_eq o) es (e ∷ without order k es))) [
        | Less ↦ (h.0, all_without k es h.1)
        | Equal ↦ h.1
        | Greater ↦ (h.0, all_without k es h.1)
      ]

  pub all_at : ((x y : K) → order x y ≡ Equal → x ≡ y) → (k : K) (v : V) (es : List (K × V)) → at order k es ≡ Some v → AllByRecursion P es → P (k, v)
  all_at tied k v [] e h = absurd (cc)
  all_at tied k v (x ∷ es) e h =
      elim (order k x.0) as (λ o. order k x.0 ≡ o → cond (is_eq o) (Some x.1) (at order k es) ≡ Some v → P (k, v)) [
        | Less ↦ λ p e. all_at tied k v es e h.1
        | Equal ↦ λ p e.
            let keys = sym (tied k x.0 p) in
            let values : x.1 ≡ v = cc in
            subst P (λ i. (keys i, values i)) h.0
        | Greater ↦ λ p e. all_at tied k v es e h.1
      ] refl e

pub all_added : (P : ℕ → Type 0) (n : ℕ) (ns : List ℕ) → P n → AllByRecursion P ns → AllByRecursion P (with_number n ns)
all_added P n [] p h = (p, tt)
all_added P n (x ∷ ns) p h =
    elim (nat_cmp n x) as (λ o. AllByRecursion P (match_ordering o (n ∷ x ∷ ns) (x ∷ ns) (x ∷ with_number n ns))) [
      | Less ↦ (p, h)
      | Equal ↦ h
      | Greater ↦ (h.0, all_added P n ns p h.1)
    ]

pub all_one_of : (P : ℕ → Type 0) (n : ℕ) (ns : List ℕ) → is_one_of ns n ≡ true → AllByRecursion P ns → P n
all_one_of P n [] e h = absurd (false≢true e)
all_one_of P n (x ∷ ns) e h =
    elim (or_cases (eqb x n) (list_any (λ m. eqb m n) ns) e) [
      | inl same ↦ subst P (eqb-true x n same) h.0
      | inr rest ↦ all_one_of P n ns rest h.1
    ]
