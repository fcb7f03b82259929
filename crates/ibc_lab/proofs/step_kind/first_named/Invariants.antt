-- The first of the kinds that are left is the first of all.
use Rattle.std.proofs.Common.{◌≡◌, drop}
use Rattle.ibc_lab.specs.Words.{first_named}
use Rattle.ibc_lab.proofs.step_kind.first_named.Given as goal

abbrev pub invariant-loop-kind : goal.invariant-loop-kind
invariant-loop-kind l = first_named l.name (drop l.kind-index l.kinds) ≡ first_named l.name l.kinds
