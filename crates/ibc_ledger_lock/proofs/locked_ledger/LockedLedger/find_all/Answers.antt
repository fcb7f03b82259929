use Rattle.std.proofs.Common.{◌∙◌, All, arith, subst}
use Rattle.std.proofs.lemmas.List.{take_all}
use Rattle.std.proofs.lemmas.List.Elements.{All-more}
use Rattle.ibc_ledger_lock.specs.ReceiptsAndReadings.{ReceiptModel, SharedLedger, StandsOnItsChain}
use Rattle.ibc_ledger_lock.proofs.locked_ledger.LockedLedger.find_all.Goals as goal

pub loop-k-preserved : goal.loop-k-preserved
loop-k-preserved g c =
    let told = c.index-receipts-k.result in
    let P : ReceiptModel → Type 0 = StandsOnItsChain c.args.self.now.held.ledger.chain c.args.self.now.calls in
    let here : P told = subst (λ (s : SharedLedger). StandsOnItsChain s.held.ledger.chain s.calls told) c.loop-k.invariant.0 c.find.ensures.stands in
    (c.find.ensures.same ∙ c.loop-k.invariant.0, All-more P c.args.receipts.now c.loop-k.k told (omega arith) c.loop-k.invariant.1 (subst P c.index-receipts-k.is here))

pub returns-clause-stand : goal.returns-clause-stand
returns-clause-stand g c =
    let P : ReceiptModel → Type 0 = StandsOnItsChain c.args.self.now.held.ledger.chain c.args.self.now.calls in
    subst (All P) (take_all c.loop-k.k c.args.receipts.now (omega arith)) c.loop-k.invariant.1
