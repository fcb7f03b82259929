-- The faults so far, and those of the items that are left, are all.
use Rattle.std.proofs.Common.{◌≡◌, ◌++◌, drop, map}
use Rattle.serde_json.specs.View.{view}
use Rattle.ibc_lab.specs.Faults.{parts_faults}
use Rattle.ibc_lab.proofs.judge.Judge.parts.Given as goal

abbrev pub invariant-loop-index : goal.invariant-loop-index
invariant-loop-index l =
    l.found.items ++ parts_faults (map view l.self.chains.now) l.place l.index (drop l.index l.parts) (map view (drop l.index l.items)) ≡ l.fn.found.items ++ parts_faults (map view l.self.chains.now) l.place 0 l.parts (map view l.items)
