use Rattle.std.proofs.Common.{◌∙◌, ℕ, ap, subst}
use Rattle.ibc_machine.specs.declared.event.Event.TheVariants as event
use Rattle.ibc_ledger_lock.specs.ReceiptsAndReadings.{IsReceiptOf, SharedLedger}
use Rattle.ibc_ledger_lock.proofs.chain.Chain.submit.Goals as goal

pub returns : goal.returns
returns g c =
    subst (λ (n : ℕ). IsReceiptOf (event.Message n c.args.message) c.submit.result)
    (ap (λ (s : SharedLedger). s.held.ledger.chain) c.deref_mut.ensures.value ∙ c.lock.ensures) c.submit.ensures.told
