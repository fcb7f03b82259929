-- The faults so far, and those of the items that are left, are all.
use Rattle.std.proofs.Common.{◌≡◌, ◌++◌, drop, map}
use Rattle.serde_json.specs.View.{view}
use Rattle.ibc_lab.specs.Faults.{each_faults}
use Rattle.ibc_lab.proofs.judge.Judge.each.Given as goal

abbrev pub invariant-loop-index : goal.invariant-loop-index
invariant-loop-index l =
    l.found.items ++ each_faults (map view l.self.chains.now) l.place l.tuple l.index (map view (drop l.index l.items)) ≡ l.fn.found.items ++ each_faults (map view l.self.chains.now) l.place l.tuple 0 (map view l.items)
