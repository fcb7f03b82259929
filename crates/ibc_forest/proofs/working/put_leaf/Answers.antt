-- Another node there, so one text a row above it.
use Rattle.std.proofs.Common.{◌≢◌, ◌-◌, get_or, length, sym, ap, ◌∙◌, arith}
use Rattle.ibc_forest.specs.NodeLevels.{rows_of, first_row}
use Rattle.ibc_forest.proofs.Putting.{one_time}
use Rattle.ibc_forest.proofs.working.put_leaf.Goals as goal

pub returns-in_err-climb-clause-steps : goal.returns-in_err-climb-clause-steps
returns-in_err-climb-clause-steps c =
    let old = first_row (rows_of c.args.rows.now) in
    let other : c.args.node ≢ get_or old c.args.index 0 = λ e. c.if-first_of-index.false (ap (λ row. get_or row c.args.index 0) c.first_of.ensures ∙ sym e) in
    let one = one_time c.args.node (get_or old c.args.index 0) (length c.args.rows.now - 1) other in
    let steps = c.in_err-climb.ensures.steps in
    omega arith

pub returns-clause-steps : goal.returns-clause-steps
returns-clause-steps c =
    let old = first_row (rows_of c.args.rows.now) in
    let other : c.args.node ≢ get_or old c.args.index 0 = λ e. c.if-first_of-index.false (ap (λ row. get_or row c.args.index 0) c.first_of.ensures ∙ sym e) in
    let one = one_time c.args.node (get_or old c.args.index 0) (length c.args.rows.now - 1) other in
    let steps = c.in_ok-climb.ensures.steps in
    omega arith
