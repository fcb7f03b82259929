-- The faults so far, and those of the names that are left, are all.
use Rattle.std.proofs.Common.{◌≡◌, ◌++◌, map, string_bytes}
use Rattle.std.specs.BTreeMap.{keys}
use Rattle.ibc_lab.specs.Faults.{unknown_faults}
use Rattle.ibc_lab.proofs.judge.Judge.unknown.Given as goal

abbrev pub invariant-loop-name : goal.invariant-loop-name
invariant-loop-name l =
    l.found.items ++ unknown_faults l.place l.owed (map string_bytes l.name-iterator) ≡ l.fn.found.items ++ unknown_faults l.place l.owed (map string_bytes (keys l.members))
