-- The holding before is of another denomination, of another user, or the same.
use Rattle.std.proofs.Common.{◌-◌, arith}
use Rattle.ibc_ledger.specs.SortedHoldings.{shown, all_shown}
use Rattle.ibc_ledger.proofs.SortedRows.{read_at, shown_inside, text_answer, stands_apart, stands_more, twice}
use Rattle.ibc_ledger.proofs.sorted_holdings.total_before.Goals as goal

pub returns-then-ne-clause-standing : goal.returns-then-ne-clause-standing
returns-then-ne-clause-standing c =
    let row = c.args.sorted.now in
    let i = c.args.i in
    let h = c.index-sorted-i.result in
    let b = c.index-sorted-i-2.result in
    stands_apart (all_shown row) i (shown h) (shown_inside row i c.requires.inside) (read_at row i h c.requires.inside c.index-sorted-i.is) (shown b) c.requires.sorted
    (omega (arith, c.if-i-eq0.false))
    (read_at row (i - 1) b (omega (arith, c.requires.inside)) c.index-sorted-i-2.is)
    (text_answer _ b.denom.now h.denom.now c.if-ne.ensures)

pub returns-then-ne-2-clause-standing : goal.returns-then-ne-2-clause-standing
returns-then-ne-2-clause-standing c =
    let row = c.args.sorted.now in
    let i = c.args.i in
    let h = c.index-sorted-i.result in
    let b = c.index-sorted-i-2.result in
    stands_more (all_shown row) i (shown h) (shown_inside row i c.requires.inside) (read_at row i h c.requires.inside c.index-sorted-i.is) c.args.total (shown b) c.requires.sorted c.requires.so_far
    (omega (arith, c.if-i-eq0.false))
    (read_at row (i - 1) b (omega (arith, c.requires.inside)) c.index-sorted-i-2.is)
    (text_answer _ b.denom.now h.denom.now c.if-ne.ensures)
    (text_answer _ b.user.now h.user.now c.if-ne-2.ensures)

pub returns-else-ne-2-clause-unfair : goal.returns-else-ne-2-clause-unfair
returns-else-ne-2-clause-unfair c =
    let row = c.args.sorted.now in
    let i = c.args.i in
    let h = c.index-sorted-i.result in
    let b = c.index-sorted-i-2.result in
    twice (all_shown row) i (shown h) (shown_inside row i c.requires.inside) (read_at row i h c.requires.inside c.index-sorted-i.is) (shown b)
    (omega (arith, c.if-i-eq0.false))
    (read_at row (i - 1) b (omega (arith, c.requires.inside)) c.index-sorted-i-2.is)
    (text_answer _ b.user.now h.user.now c.if-ne-2.ensures)
    (text_answer _ b.denom.now h.denom.now c.if-ne.ensures)
