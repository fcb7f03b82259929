use Rattle.std.proofs.Common.{◌≡◌, ◌∙◌, ℕ, ap, length, subst}
use Rattle.ibc_ledger_lock.specs.ReceiptsAndReadings.{SharedLedger, StandsOnItsChain}
use Rattle.ibc_ledger_lock.proofs.Noting.{behind}
use Rattle.ibc_ledger_lock.proofs.chain.Chain.produce_after.Goals as goal

pub end_block-receipt-requires : goal.end_block-receipt-requires
end_block-receipt-requires g c =
    let number : SharedLedger → ℕ = λ s. s.held.ledger.chain in
    ap number (c.deref_mut-2.ensures.value ∙ c.find.ensures.same ∙ c.deref_mut.ensures.value) ∙ c.lock-desk.ensures

pub returns-clause-behind : goal.returns-clause-behind
returns-clause-behind g c =
    let desk : SharedLedger = c.deref_mut.result.now in
    let of : desk.held.ledger.chain ≡ c.args.self.now = ap (λ (s : SharedLedger). s.held.ledger.chain) c.deref_mut.ensures.value ∙ c.lock-desk.ensures in
    behind c.args.earlier.now c.end_block-receipt.result c.args.self.now desk.calls c.end_block-receipt.ensures.told.0
    (c.end_block-receipt.ensures.place ∙ ap (λ (s : SharedLedger). length s.calls) (c.deref_mut-2.ensures.value ∙ c.find.ensures.same))
    (subst (λ (n : ℕ). StandsOnItsChain n desk.calls c.args.earlier.now) of c.find.ensures.stands)
