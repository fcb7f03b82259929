-- The sort moves the references.
use Rattle.std.proofs.Common.{map, subst}
use Rattle.std.specs.List.Sorted.{IsPermutation}
use Rattle.std.proofs.lemmas.List.Sorted.{IsPermutation-map}
use Rattle.ibc_bank.specs.SortedStarts.{shown}
use Rattle.ibc_bank.proofs.sorted_starts.sorted_by_user.Goals as goal

pub returns : goal.returns
returns c =
    let old = c.in_ok-list.list.items in
    let new = c.heap_sorted.result.items in
    subst (λ xs. IsPermutation xs (map shown new)) c.in_ok-list.ensures (IsPermutation-map shown old new c.heap_sorted.ensures.same)
