use Rattle.std.proofs.Common.{◌≡◌, length}
use Rattle.ibc_refinement.specs.Meetings.{FirstHaveSeenNoMore, FirstHaveSeen}
use Rattle.ibc_world_core.specs.WorldModel.{ledgers_alone, HaveSeenMore, FirstAreLedgers}
use Rattle.ibc_world_core.proofs.meeting.follow_each.Given as goal

abbrev pub invariant-loop-index : goal.invariant-loop-index
invariant-loop-index l = record {
  leader : l.leader ≡ l.fn.leader;
  others : HaveSeenMore l.fn.leader.table l.fn.others l.others;
  behind : FirstHaveSeenNoMore (length l.fn.others) l.fn.leader.ledger.seen (ledgers_alone l.others);
  seen : FirstHaveSeen l.index l.fn.leader.ledger.seen (ledgers_alone l.others);
  are : FirstAreLedgers l.index (ledgers_alone l.others);
}
