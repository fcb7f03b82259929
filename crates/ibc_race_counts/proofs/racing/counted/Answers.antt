use Rattle.std.proofs.Common.{◌∙◌, ℕ, List, subst}
use Rattle.std.specs.List.{AllZip}
use Rattle.ibc_ledger_lock.specs.ReceiptsAndReadings.{ReceiptModel}
use Rattle.ibc_race_counts.specs.CountedReceipts.{AreCountsOf, IsCountedOn}
use Rattle.ibc_race_counts.proofs.CountedLedgers.{counted_race}
use Rattle.ibc_race_counts.proofs.racing.counted.Goals as goal

pub returns-in-Ok-clause-counted : goal.returns-in-Ok-clause-counted
returns-in-Ok-clause-counted g c steps taken =
    let run = c.args.taken in
    let own = subst (λ (r : List ReceiptModel). AreCountsOf r c.in_ok-steps.steps) c.as_slice-3.ensures.value c.in_ok-steps.ensures in
    let each = subst (λ (l : List (List ReceiptModel)). AllZip (IsCountedOn run.chains.items) l c.in_ok-relayers.relayers.items) c.as_slice-2.ensures.value
    (subst (λ (n : List ℕ). AllZip (IsCountedOn n) c.as_slice-2.result.now c.in_ok-relayers.relayers.items) c.as_slice.ensures.value c.in_ok-relayers.ensures) in
    counted_race g.W.WorldBrand.table g.W.WorldBrand.genesis run.chains.items run.receipts.items run.logs.items c.as_slice-4.result.now _ steps c.in-Ok.audit
    c.in_ok-steps.steps c.in_ok-relayers.relayers c.race_of.result c.in-Ok.ensures.audited (c.as_slice-4.ensures.value ∙ c.in_ok-all.ensures) taken c.requires own each
    c.race_of.ensures.steps c.race_of.ensures.relayers c.race_of.ensures.balances c.race_of.ensures.notes
