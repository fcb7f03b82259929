-- One more takes over what the leader has seen.
use Rattle.std.proofs.Common.{arith, ap, subst, ◌∙◌, get_or}
use Rattle.std.proofs.lemmas.List.{get_or-set_same}
use Rattle.std.proofs.lemmas.Option.{slice_get-get_or}
use Rattle.ibc_machine.specs.ledger.Ledgers.{IsLedger}
use Rattle.ibc_ledger.specs.LedgerModel.{LedgerModel}
use Rattle.ibc_world_core.proofs.Rounds.{one_is_behind, follower_sees, one_sees_more, others_still_behind, one_more_sees, one_more_is}
use Rattle.ibc_world_core.proofs.meeting.follow_each.Goals as goal

pub follow-requires-clause-behind : goal.follow-requires-clause-behind
follow-requires-clause-behind c =
    let list = c.loop-index.others in
    let other = get_or list c.loop-index.index c.index-others-index.result in
    let there = slice_get-get_or list c.loop-index.index c.index-others-index.result (omega arith) in
    let so_far = c.loop-index.invariant in
    one_is_behind _ c.loop-index.index list c.args.leader.now c.loop-index.leader other so_far.behind so_far.leader c.loop-index-test.true there

pub loop-index-preserved : goal.loop-index-preserved
loop-index-preserved c =
    let list = c.loop-index.others in
    let index = c.loop-index.index in
    let other = get_or list index c.index-others-index.result in
    let there = slice_get-get_or list index c.index-others-index.result (omega arith) in
    let so_far = c.loop-index.invariant in
    let leader = c.args.leader.now in
    let after = c.follow.new.self in
    let follows = c.follow.ensures.follows in
    let behind = one_is_behind _ index list leader c.loop-index.leader other so_far.behind so_far.leader c.loop-index-test.true there in
    let sees = follower_sees c.loop-index.leader other after behind follows in
    let same = ap (λ (h : LedgerModel). h.ledger.seen) follows ∙ ap (λ (h : LedgerModel). h.ledger.seen) so_far.leader in
    let is = subst (λ (h : LedgerModel). IsLedger h.ledger) (get_or-set_same list index after c.index-others-index-in-loop-index.result (omega arith)) c.lemma_is_its_history.ensures.is in
    record {
      leader = c.follow.ensures.leader ∙ so_far.leader;
      others = one_sees_more leader.table c.args.others.now list index other after so_far.others there sees (ap (λ (h : LedgerModel). h.table) follows);
      behind = others_still_behind _ index leader.ledger.seen list other after so_far.behind there same;
      seen = one_more_sees index leader.ledger.seen list other after so_far.seen there same;
      are = one_more_is index list other after so_far.are there is;
    }
