use Rattle.std.proofs.Common.{◌≡◌, length}
use Rattle.ibc_maps.specs.Changes.{with_changes}
use Rattle.ibc_maps.specs.SettledPairs.{AreSettledSorted}
use Rattle.ibc_maps.proofs.pairs.PairsIterator.next.Given as goal

abbrev pub invariant-loop-change : goal.invariant-loop-change
invariant-loop-change g l = record {
  same : with_changes g.K.Ord.cmp l.self-inside.changes.now l.self-inside.settled ≡ with_changes g.K.Ord.cmp l.initial.self-inside.changes.now l.initial.self-inside.settled;
  sorted : AreSettledSorted g.K.Ord.cmp l.self-inside.changes.now l.self-inside.settled;
}

abbrev pub decreases-loop-change : goal.decreases-loop-change
decreases-loop-change g l = length l.self-inside.changes.now
