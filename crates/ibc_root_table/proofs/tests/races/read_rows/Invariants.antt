use Rattle.std.proofs.Common.{◌≡◌, ◌≤◌}
use Rattle.ibc_ids.specs.Publications.{height_of}
use Rattle.ibc_root_table.proofs.tests.races.read_rows.Given as goal

abbrev pub invariant-loop-height : goal.invariant-loop-height
invariant-loop-height l = (l.pass.table ≡ l.table) × (l.to ≤ height_of 0 l.pass.seen)
