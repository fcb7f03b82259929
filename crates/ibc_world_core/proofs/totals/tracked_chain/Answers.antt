-- What is asked of the end is asked of the channel.
use Rattle.std.proofs.Common.{sym}
use Rattle.ibc_machine.specs.ledger.Ledgers.{state_of}
use Rattle.ibc_world_core.proofs.CountedTotals.{tracked_as}
use Rattle.ibc_world_core.proofs.totals.tracked_chain.Goals as goal

pub returns : goal.returns
returns c =
    sym (tracked_as (state_of c.args.mine.ledger.now.ledger).chain.records.core c.args.mine.end.now c.end-end.result.now c.tracked_over.result c.end-end.ensures c.tracked_over.ensures)
