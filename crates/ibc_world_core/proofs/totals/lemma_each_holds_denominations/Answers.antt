-- One ledger more holds denominations alone.
use Rattle.ibc_world_core.proofs.Denominations.{one_more_holds}
use Rattle.std.proofs.Common.{sym, ◌∙◌, ap, Some}
use Rattle.std.proofs.lemmas.Option.{slice_get-get_or}
use Rattle.ibc_world_core.proofs.totals.lemma_each_holds_denominations.Goals as goal

pub loop-ledger-preserved : goal.loop-ledger-preserved
loop-ledger-preserved c =
    one_more_holds c.loop-ledger.ledger-index c.args.ledgers.now c.ledger-item.result c.loop-ledger.invariant
    (slice_get-get_or c.args.ledgers.now c.loop-ledger.ledger-index c.ledger-item.result c.loop-ledger-test.true ∙ ap Some (sym c.ledger-item.is)) c.lemma_holds_denominations.ensures
