-- The plan is the updates of clients and then what is pending.
use Rattle.std.proofs.Common.{◌≡◌, ◌++◌, ◌∙◌, ◌<◌, sym, arith}
use Rattle.ibc_relayer.proofs.PlannedMessages.{no_plan, plan_is}
use Rattle.ibc_relayer.proofs.planning.plan.Goals as goal

pub returns-then-height-eq0-clause-ok : goal.returns-then-height-eq0-clause-ok
returns-then-height-eq0-clause-ok c =
    let none : c.args.a.now.height ≡ 0 = omega arith in
    c.new.ensures.items ∙ sym (no_plan c.args.a.now c.args.b.now none)

pub returns-clause-ok : goal.returns-clause-ok
returns-clause-ok c =
    let low : 0 < c.args.a.now.height = omega arith in
    c.in_ok-append.ensures.items ∙ (λ i. c.in_ok-plan.ensures.ok i ++ c.in_ok-used.ensures.ok i)
    ∙ plan_is c.args.a.now c.args.b.now low c.in_ok-used.used.entries c.in_ok-used.ensures.used
