-- What the members that are left say of the name, all say.
use Rattle.std.proofs.Common.{◌≡◌, drop}
use Rattle.ibc_lab.specs.Faults.{is_owed}
use Rattle.ibc_lab.proofs.judge.is_owed.Given as goal

abbrev pub invariant-loop-owes : goal.invariant-loop-owes
invariant-loop-owes l = is_owed (drop l.owes-index l.owed) l.name ≡ is_owed l.owed l.name
