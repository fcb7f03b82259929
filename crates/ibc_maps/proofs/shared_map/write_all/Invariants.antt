use Rattle.std.proofs.Common.{◌≡◌, take}
use Rattle.ibc_maps.specs.Changes.{with_changes}
use Rattle.ibc_maps.proofs.shared_map.write_all.Given as goal

abbrev pub invariant-loop-change : goal.invariant-loop-change
invariant-loop-change g l = l.row ≡ with_changes g.K.Ord.cmp (take l.change-index l.changes) l.initial.row
