-- No node is left, or the last one.
use Rattle.std.proofs.Common.{◌++◌, ap, sym, ◌∙◌, append-nil, arith}
use Rattle.ibc_forest.proofs.Pairing.{last_even, last_odd}
use Rattle.ibc_forest.proofs.rows.add_odd.Goals as goal

pub returns-then-row-eq0 : goal.returns-then-row-eq0
returns-then-row-eq0 c = sym (ap (λ rest. c.args.above.now.items ++ rest) (last_even c.args.row.now c.if-row-eq0.true) ∙ append-nil c.args.above.now.items)

pub returns : goal.returns
returns c = c.in_ok-push.ensures.items ∙ sym (ap (λ rest. c.args.above.now.items ++ rest) (last_odd c.args.row.now (let odd = c.if-row-eq0.false in omega arith)))
