-- The faults so far, and those of the members that are left, are all.
use Rattle.std.proofs.Common.{◌≡◌, ◌++◌, drop, map}
use Rattle.serde_json.specs.View.{view}
use Rattle.ibc_lab.specs.Faults.{members_faults}
use Rattle.ibc_lab.proofs.judge.Judge.members.Given as goal

abbrev pub invariant-loop-owes : goal.invariant-loop-owes
invariant-loop-owes l =
    l.found.items ++ members_faults (map view l.self.chains.now) l.place (drop l.owes-index l.owed) (view l.object) ≡ l.fn.found.items ++ members_faults (map view l.self.chains.now) l.place l.owed (view l.object)
