-- A row that was read says of the header what the definition says.
use Rattle.ibc_records.proofs.FoundRows.{the_same, other_time, other_root}
use Rattle.ibc_records.proofs.header_check.check_row.Goals as goal
use Rattle.ibc_records.proofs.header_check.check_row.Goals.{else-header-found-via-then-header-found+else-eq, else-header-found-via-else-header-found}

pub returns-then-eq : goal.returns-then-eq
returns-then-eq c = the_same c.args.row c.args.header.now c.in-Some.found.0 c.in-Some.found.1 c.in-Some.is c.if-header-found.true c.if-eq.ensures

pub returns-else-header-found : goal.returns-else-header-found
returns-else-header-found c =
    elim c.else-header-found.branch [
      | else-header-found-via-then-header-found+else-eq w ↦ other_root c.args.row c.args.header.now c.in-Some.found.0 c.in-Some.found.1 c.in-Some.is w.if-eq.ensures
      | else-header-found-via-else-header-found w ↦ other_time c.args.row c.args.header.now c.in-Some.found.0 c.in-Some.found.1 c.in-Some.is w.if-header-found.false
    ]
