use Rattle.std.proofs.Common.{◌≡◌}
use Rattle.ibc_root_table.proofs.tests.races.read_all.Given as goal

abbrev pub invariant-looks : goal.invariant-looks
invariant-looks l = l.pass.table ≡ l.table
