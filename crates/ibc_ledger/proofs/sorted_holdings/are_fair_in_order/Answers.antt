-- At the end each is fair.
use Rattle.std.proofs.Common.{sym, arith}
use Rattle.std.proofs.lemmas.List.{length-map}
use Rattle.ibc_ledger.specs.SortedHoldings.{shown, all_shown}
use Rattle.ibc_ledger.proofs.SortedRows.{all_fair}
use Rattle.ibc_ledger.proofs.sorted_holdings.are_fair_in_order.Goals as goal

pub returns : goal.returns
returns c =
    let row = c.args.sorted.now in
    sym (all_fair (all_shown row) c.loop-i.i c.loop-i.total c.requires.base c.loop-i.invariant (omega (arith, length-map row shown, c.loop-i-test.false)))
