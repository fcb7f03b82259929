-- One event after another is a step.
use Rattle.std.proofs.Common.{◌∙◌, length, sym, ap, subst, arith}
use Rattle.std.specs.Vec.Iter.{into_iter_items}
use Rattle.ibc_refinement.specs.World.{IsWorld}
use Rattle.ibc_refinement.proofs.world.Together.{order_is_run}
use Rattle.ibc_world_core.proofs.EventSequences.{none_has_run, one_more_has_run, all_have_run}
use Rattle.ibc_world_core.proofs.world.World.run.Goals as goal

pub returns-in_default-clause-past : goal.returns-in_default-clause-past
returns-in_default-clause-past c = order_is_run c.args.self.now (subst IsWorld c.self.view_is c.self.invariant.world)

pub loop-event-init : goal.loop-event-init
loop-event-init c =
    let gives = c.into_iter-event-iterator.ensures.into_iter_gives in
    let replies = c.in-Ok.ensures in
    let left = gives.1 ∙ c.args.events.ok.0 ∙ ap length (sym gives.0) in
    record {
      so_far = none_has_run c.args.self.now c.args.events.items (into_iter_items c.into_iter-event-iterator.result) c.in-Ok.replies.items gives.0 replies.items;
      left = left;
      room = omega (arith, replies.len, replies.exact, c.len.ensures, gives.1, left);
    }

pub push_reserved-requires : goal.push_reserved-requires
push_reserved-requires c =
    let so_far = c.loop-event.invariant in
    let long = ap length c.in-Some.ensures.steps.0 in
    omega (arith, so_far.room, long)

pub loop-event-preserved : goal.loop-event-preserved
loop-event-preserved c =
    let at = c.loop-event in
    let steps = c.in-Some.ensures.steps in
    let long = ap length steps.0 in
    let was = at.invariant.left in
    let gone = steps.1 in
    let pushed = c.push_reserved.ensures in
    record {
      so_far =
          one_more_has_run c.args.self.now c.args.events.items at.yielded (into_iter_items at.event-iterator) (into_iter_items c.next.new.self) c.in-Some.event at.replies.items c.push_reserved.new.self.items c.step.result at.self c.step.new.self
          at.invariant.so_far steps.0 pushed.items c.step.ensures.step;
      left = omega (arith, long, was, gone);
      room = omega (arith, at.invariant.room, long, pushed.len, pushed.capacity);
    }

pub returns-clause-runs : goal.returns-clause-runs
returns-clause-runs c =
    let at = c.loop-event in
    let is = subst IsWorld c.self.view_is c.self.invariant.world in
    all_have_run c.args.self.now c.args.events.items at.yielded (into_iter_items at.event-iterator) at.replies.items at.self is at.invariant.so_far (sym at.invariant.left ∙ c.in-None.ensures.steps.0)

pub returns-clause-past : goal.returns-clause-past
returns-clause-past c =
    let at = c.loop-event in
    let is = subst IsWorld c.self.view_is c.self.invariant.world in
    let run = all_have_run c.args.self.now c.args.events.items at.yielded (into_iter_items at.event-iterator) at.replies.items at.self is at.invariant.so_far (sym at.invariant.left ∙ c.in-None.ensures.steps.0) in
    order_is_run at.self run.is
