use Rattle.std.proofs.Common.{◌≡◌}
use Rattle.ibc_machine.specs.ledger.Ledgers.{SeesMore}
use Rattle.ibc_refinement.specs.Meetings.{FirstHaveSeenNoMore}
use Rattle.ibc_world_core.specs.WorldModel.{ledgers_alone, HaveSeenMore}
use Rattle.ibc_world_core.proofs.meeting.meet_each.Given as goal

abbrev pub invariant-loop-index : goal.invariant-loop-index
invariant-loop-index l = record {
  table : l.leader.table ≡ l.fn.leader.table;
  leader : SeesMore l.fn.leader.ledger l.leader.ledger;
  others : HaveSeenMore l.fn.leader.table l.fn.others l.others;
  behind : FirstHaveSeenNoMore l.index l.leader.ledger.seen (ledgers_alone l.others);
}
