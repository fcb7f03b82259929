-- What rises, one item after another, is sorted.
use Rattle.std.proofs.Common.{◌≡◌, ◌∙◌, ◌+◌, true, false, List, get_or, sym, ap, refl, Option, Ordering, Less, Equal, Greater, is_lt}
use Rattle.std.specs.Cmp.{IsTotalOrder}
use Rattle.std.specs.List.{IsAllAdjacentAnswer}
use Rattle.std.specs.List.Sorted.{IsSorted}
use Rattle.std.specs.Ordering.{is_le, is_some_and, ordering_reverse, partial_le}
use Rattle.std.proofs.lemmas.Bool.{false≢true}
use Rattle.std.specs.Prelude.{Some}

not_above : (o : Ordering) → is_le o ≡ true → is_lt (ordering_reverse o) ≡ false
not_above Less e = refl
not_above Equal e = refl
not_above Greater e = absurd (false≢true e)

pub sorted_by_test : {X : Type 0} (P : X → X → Option Ordering) (R : X → X → Ordering) → IsTotalOrder R → ((x y : X) → P x y ≡ Some (R x y)) → (xs : List X)
    → IsAllAdjacentAnswer (λ x y b. partial_le P x y ≡ b) xs true → IsSorted R xs
sorted_by_test P R total agrees xs rising k d low high =
    let x = get_or xs k d in
    let y = get_or xs (k + 1) d in
    ap is_lt (total.antisymm y x) ∙ not_above (R x y) (ap (is_some_and is_le) (sym (agrees x y)) ∙ rising k d high)
