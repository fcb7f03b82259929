-- What was found is what the definition says of the publications that were seen, and what was read is how many the chain
-- had published when the pass counted them.
use Rattle.std.proofs.Common.{arith}
use base.Growing.{prefix_refl}
use Rattle.ibc_records.proofs.FoundRows.{unpublished, row_checked}
use Rattle.ibc_records.proofs.header_check.look.Goals as goal

pub returns-then-header-published-clause-read : goal.returns-then-header-published-clause-read
returns-then-header-published-clause-read c =
    let mid = c.published-published.new.pass.seen in (mid, c.published-published.ensures.seen, prefix_refl mid, c.published-published.ensures.height)

pub returns-then-header-published-clause-checked : goal.returns-then-header-published-clause-checked
returns-then-header-published-clause-checked c = unpublished c.published-published.new.pass.seen c.args.header.now c.published-published.result c.if-header-published.true

pub returns-clause-read : goal.returns-clause-read
returns-clause-read c =
    (c.published-published.new.pass.seen, c.published-published.ensures.seen, c.row-row.ensures.seen, c.published-published.ensures.height)

pub returns-clause-checked : goal.returns-clause-checked
returns-clause-checked c =
    row_checked c.row-row.new.pass.seen c.args.header.now c.row-row.result c.check_row.result c.check_row.ensures c.is_some.ensures c.row-row.ensures.row (omega arith)
