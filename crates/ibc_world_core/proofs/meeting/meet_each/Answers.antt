-- The leader meets one more, which is then behind it.
use Rattle.std.proofs.Common.{arith, get_or, ◌∙◌}
use Rattle.std.proofs.lemmas.Option.{slice_get-get_or}
use Rattle.ibc_refinement.proofs.world.Meetings.{sees_both}
use Rattle.ibc_world_core.proofs.Rounds.{one_sees_more, one_more_behind}
use Rattle.ibc_world_core.proofs.meeting.meet_each.Goals as goal

pub loop-index-preserved : goal.loop-index-preserved
loop-index-preserved c =
    let list = c.loop-index.others in
    let other = get_or list c.loop-index.index c.index-others-index.result in
    let there = slice_get-get_or list c.loop-index.index c.index-others-index.result (omega arith) in
    let so_far = c.loop-index.invariant in
    let met = c.meet.ensures in
    record {
      table = met.tables.0 ∙ so_far.table;
      leader = sees_both c.args.leader.now.ledger c.loop-index.leader.ledger c.meet.new.self.ledger so_far.leader met.own;
      others = one_sees_more c.args.leader.now.table c.args.others.now list c.loop-index.index other c.meet.new.other so_far.others there met.others met.tables.1;
      behind = one_more_behind c.loop-index.index list c.loop-index.leader.ledger c.meet.new.self.ledger other c.meet.new.other so_far.behind met.own there met.same;
    }
