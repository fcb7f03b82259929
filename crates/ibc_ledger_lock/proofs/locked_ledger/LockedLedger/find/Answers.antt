use Rattle.std.proofs.Common.{subst}
use Rattle.ibc_ledger_lock.specs.ReceiptsAndReadings.{ReceiptModel, SharedLedger, StandsAmong, told_of}
use Rattle.ibc_ledger_lock.proofs.Noting.{stands}
use Rattle.ibc_ledger_lock.proofs.locked_ledger.LockedLedger.find.Goals as goal

pub returns-clause-stands : goal.returns-clause-stands
returns-clause-stands g c =
    let r = c.receipt.inside in
    let calls = c.self.inside.keeper.known.calls in
    let told : ReceiptModel = told_of r.chain r.reply r.mark.known.calls in
    let here : StandsAmong calls told = stands r.chain r.reply r.mark.known.calls calls c.check.ensures.begins.2 c.receipt.invariant.1 in
    λ number. subst (λ (t : ReceiptModel). StandsAmong c.args.self.now.calls t) c.receipt.view_is
    (subst (λ (s : SharedLedger). StandsAmong s.calls told) c.self.view_is here)
