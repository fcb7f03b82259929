-- The faults so far, and those of the chains that are left, are all.
use Rattle.std.proofs.Common.{◌≡◌, ◌++◌, drop, map}
use Rattle.serde_json.specs.View.{view}
use Rattle.ibc_lab.specs.Faults.{chains_faults}
use Rattle.ibc_lab.proofs.judge.Judge.chains.Given as goal

abbrev pub invariant-loop-index : goal.invariant-loop-index
invariant-loop-index l =
    l.found.items ++ chains_faults (map view l.self.chains.now) l.index (map view (drop l.index l.self.chains.now)) ≡ l.fn.found.items ++ chains_faults (map view l.self.chains.now) 0 (map view l.self.chains.now)
