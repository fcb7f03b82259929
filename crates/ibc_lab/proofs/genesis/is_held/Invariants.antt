-- One of the holdings that are left is the same where one of all is.
use Rattle.std.proofs.Common.{◌≡◌, drop}
use Rattle.std.specs.List.{list_any}
use Rattle.ibc_machine.specs.chain.Genesis.{is_same_holding}
use Rattle.ibc_lab.proofs.genesis.is_held.Given as goal

abbrev pub invariant-loop-other : goal.invariant-loop-other
invariant-loop-other l = list_any (is_same_holding l.holding) (drop l.other-index l.before) ≡ list_any (is_same_holding l.holding) l.before
