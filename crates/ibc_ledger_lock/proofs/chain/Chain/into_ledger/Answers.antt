use Rattle.std.proofs.Common.{◌∙◌, All, ap, subst, sym}
use Rattle.ibc_ledger.specs.LedgerModel.{LedgerModel}
use Rattle.ibc_ledger_lock.specs.Calls.{AreCallsOf}
use Rattle.ibc_ledger_lock.specs.ReceiptsAndReadings.{IsEarlierOnItsChain, SharedLedger, StandsOnItsChain}
use Rattle.ibc_ledger_lock.proofs.chain.Chain.into_ledger.Goals as goal

pub returns-clause-answered : goal.returns-clause-answered
returns-clause-answered g c =
    let found : SharedLedger = c.into_inner-desk.result in
    let stays = c.recall_all.ensures.same ∙ c.find_all.ensures.same in
    let same = c.into_ledger.ensures.same ∙ ap (λ (s : SharedLedger). s.held) stays in (
      found.calls,
      subst (λ (s : SharedLedger). AreCallsOf c.into_ledger.result.ledger s.calls) stays c.into_ledger.ensures.asked,
      subst (λ (l : LedgerModel). All (StandsOnItsChain l.ledger.chain found.calls) c.args.receipts.now) (sym same) c.find_all.ensures.stand,
    )

pub returns-clause-once : goal.returns-clause-once
returns-clause-once g c =
    let same = c.into_ledger.ensures.same ∙ ap (λ (s : SharedLedger). s.held) c.recall_all.ensures.same in
    subst (λ (l : LedgerModel). All (IsEarlierOnItsChain l) c.args.readings.now) (sym same) c.recall_all.ensures.once
