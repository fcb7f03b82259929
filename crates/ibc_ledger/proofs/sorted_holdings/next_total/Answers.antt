-- The amount of the holding there doesn't fit, or one more is fair.
use Rattle.std.proofs.Common.{◌≡◌, ◌+◌, ◌<◌, ◌^◌, false}
use Rattle.std.specs.List.{list_all}
use Rattle.ibc_machine.specs.chain.Genesis.{is_fair}
use Rattle.ibc_ledger.specs.SortedHoldings.{AreFairSoFar, shown, all_shown}
use Rattle.ibc_ledger.proofs.SortedRows.{read_at, shown_inside, one_more, too_large, if_fits, if_too_large}
use Rattle.ibc_ledger.proofs.sorted_holdings.next_total.Goals as goal

pub returns-clause-more : goal.returns-clause-more
returns-clause-more c =
    let row = c.args.sorted.now in
    let i = c.args.i in
    let h = c.index-sorted-i.result in
    let t = c.in_ok-standing.standing in
    if_fits c.checked_add.result (t + h.amount < 2 ^ 128) (t + h.amount) (AreFairSoFar (all_shown row) (i + 1)) c.checked_add.ensures
    (λ small. one_more (all_shown row) i (shown h) (shown_inside row i c.requires.inside) (read_at row i h c.requires.inside c.index-sorted-i.is) c.args.total t c.requires.so_far c.in_ok-standing.ensures.standing
    c.lemma_has_form.ensures small)

pub returns-clause-unfair : goal.returns-clause-unfair
returns-clause-unfair c =
    let row = c.args.sorted.now in
    let i = c.args.i in
    let h = c.index-sorted-i.result in
    let t = c.in_ok-standing.standing in
    if_too_large c.checked_add.result (t + h.amount) (2 ^ 128) (list_all (is_fair (all_shown row)) (all_shown row) ≡ false) c.checked_add.ensures
    (λ large. too_large (all_shown row) i (shown h) (shown_inside row i c.requires.inside) (read_at row i h c.requires.inside c.index-sorted-i.is) t c.in_ok-standing.ensures.standing large)
