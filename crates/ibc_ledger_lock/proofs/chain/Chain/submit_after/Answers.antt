use Rattle.std.proofs.Common.{◌≡◌, ◌∙◌, ℕ, ap, length, subst}
use Rattle.ibc_machine.specs.declared.event.Event.TheVariants as event
use Rattle.ibc_ledger_lock.specs.ReceiptsAndReadings.{IsReceiptOf, SharedLedger}
use Rattle.ibc_ledger_lock.proofs.Noting.{behind}
use Rattle.ibc_ledger_lock.proofs.chain.Chain.submit_after.Goals as goal

pub returns-clause-told : goal.returns-clause-told
returns-clause-told g c =
    let number : SharedLedger → ℕ = λ s. s.held.ledger.chain in
    subst (λ (n : ℕ). IsReceiptOf (event.Message n c.args.message) c.submit.result)
    (ap number (c.deref_mut-2.ensures.value ∙ c.find.ensures.same ∙ c.deref_mut.ensures.value) ∙ c.lock-desk.ensures) c.submit.ensures.told

pub returns-clause-behind : goal.returns-clause-behind
returns-clause-behind g c =
    let desk : SharedLedger = c.deref_mut.result.now in
    let stays : c.deref_mut-2.result.now ≡ desk = c.deref_mut-2.ensures.value ∙ c.find.ensures.same in
    let sent : c.submit.result.chain ≡ c.deref_mut-2.result.now.held.ledger.chain = c.submit.ensures.told.0 in
    let of : c.submit.result.chain ≡ desk.held.ledger.chain = sent ∙ ap (λ (s : SharedLedger). s.held.ledger.chain) stays in
    let place : c.submit.result.place ≡ length desk.calls = c.submit.ensures.place ∙ ap (λ (s : SharedLedger). length s.calls) stays in
    behind c.args.earlier.now c.submit.result desk.held.ledger.chain desk.calls of place c.find.ensures.stands
