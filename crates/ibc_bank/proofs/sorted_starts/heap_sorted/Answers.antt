-- The list is sorted as it stands, or the heap moves the items and so does its sort.
use Rattle.std.proofs.Common.{◌≡◌, subst, true}
use Rattle.std.specs.List.{IsAllAdjacentAnswer}
use Rattle.std.specs.Ordering.{partial_le}
use Rattle.std.proofs.lemmas.List.Sorted.{IsPermutation-refl, IsPermutation-trans}
use Rattle.ibc_bank.proofs.Rising.{sorted_by_test}
use Rattle.ibc_bank.proofs.sorted_starts.heap_sorted.Goals as goal

pub returns-then-is_sorted-clause-same : goal.returns-then-is_sorted-clause-same
returns-then-is_sorted-clause-same g c = IsPermutation-refl c.args.list.items

pub returns-then-is_sorted-clause-sorted : goal.returns-then-is_sorted-clause-sorted
returns-then-is_sorted-clause-sorted g c =
    sorted_by_test g.T.PartialOrd.partial_cmp g.T.Ord.cmp g.met.T.Ord.total g.met.T.Ord.matches_partial_cmp c.args.list.items
    (subst (λ xs. IsAllAdjacentAnswer (λ x y b. partial_le g.T.PartialOrd.partial_cmp x y ≡ b) xs true) c.deref.ensures.value c.if-is_sorted.ensures.cases)

pub returns-clause-same : goal.returns-clause-same
returns-clause-same g c = IsPermutation-trans _ _ _ c.from.ensures.1 c.into_sorted_vec.ensures.permutation
