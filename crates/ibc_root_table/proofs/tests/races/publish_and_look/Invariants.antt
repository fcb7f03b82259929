use Rattle.std.proofs.Common.{◌≡◌}
use Rattle.ibc_root_table.proofs.tests.races.publish_and_look.Given as goal

abbrev pub invariant-turns : goal.invariant-turns
invariant-turns l = l.own.table ≡ l.table
