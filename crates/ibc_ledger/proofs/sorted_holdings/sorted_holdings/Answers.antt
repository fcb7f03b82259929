-- The sort moves the holdings, by their order.
use Rattle.std.proofs.Common.{subst}
use Rattle.std.specs.List.Sorted.{IsPermutation}
use Rattle.std.proofs.lemmas.List.Sorted.{IsPermutation-map}
use Rattle.ibc_ledger.specs.SortedHoldings.{shown, all_shown}
use Rattle.ibc_ledger.proofs.SortedRows.{sorted_shown}
use Rattle.ibc_ledger.proofs.sorted_holdings.sorted_holdings.Goals as goal

pub returns : goal.returns
returns c =
    let old = c.in_ok-list.list.items in
    let new = c.heap_sorted.result.items in
    let sort = c.heap_sorted.ensures in
    record {
      same = subst (λ xs. IsPermutation xs (all_shown new)) c.in_ok-list.ensures (IsPermutation-map shown old new sort.same);
      sorted = sorted_shown new sort.sorted;
    }
