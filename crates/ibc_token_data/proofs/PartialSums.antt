-- A sum over a list, term by term.
use Rattle.std.proofs.Common.{◌≡◌, ℕ, ◌+◌, ◌<◌, ◌≤◌, List, length, get_or, take, sym, ap, ◌∙◌, subst}
use Rattle.std.specs.List.{sum_by}
use Rattle.std.proofs.lemmas.List.{take_all}
use Rattle.std.proofs.lemmas.List.Sums.{sum_by_more, sum_by_more_le}

module _ {X : Type 0} (f : X → ℕ) (xs : List X) (i : ℕ) where
  -- one term more, x at the place i
  pub one_more : (x : X) → i < length xs → x ≡ get_or xs i x → sum_by f (take (i + 1) xs) ≡ sum_by f (take i xs) + f x
  one_more x inside here = sum_by_more f xs i x inside ∙ ap (λ y. sum_by f (take i xs) + f y) (sym here)

  -- the terms up to x are within the whole sum
  pub within : (x : X) → i < length xs → x ≡ get_or xs i x → sum_by f (take i xs) + f x ≤ sum_by f xs
  within x inside here = subst (λ y. sum_by f (take i xs) + f y ≤ sum_by f xs) (sym here) (sum_by_more_le f xs i x inside)

  pub all_of_it : length xs ≤ i → sum_by f (take i xs) ≡ sum_by f xs
  all_of_it done = ap (sum_by f) (take_all i xs done)
