-- Nothing has gone over a new lane.
use Rattle.ibc_law_checks.proofs.LaneSteps.{new_is_lawful}
use Rattle.ibc_law_checks.proofs.lane.Lane.new.Goals as goal

pub invariant_of-result : goal.invariant_of-result
invariant_of-result c =
    rw (c.new.ensures.items, c.new-2.ensures.items, c.new-3.ensures.items, c.new-4.ensures.items)
    (record { holds = new_is_lawful c.args.ordered })
