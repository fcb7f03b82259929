-- The faults so far, and those of the steps that are left, are all.
use Rattle.std.proofs.Common.{◌≡◌, ◌++◌, drop, map}
use Rattle.serde_json.specs.View.{view}
use Rattle.ibc_lab.specs.Faults.{steps_faults}
use Rattle.ibc_lab.proofs.judge.Judge.steps.Given as goal

abbrev pub invariant-loop-index : goal.invariant-loop-index
invariant-loop-index l =
    l.found.items ++ steps_faults (map view l.self.chains.now) l.index (map view (drop l.index l.steps)) ≡ l.fn.found.items ++ steps_faults (map view l.self.chains.now) 0 (map view l.steps)
