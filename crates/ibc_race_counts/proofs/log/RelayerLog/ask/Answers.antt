-- The receipt stands behind the earlier ones.
use Rattle.std.proofs.Common.{◌≡◌, ◌∙◌, IfOk, List, map, subst, sym}
use Rattle.std.specs.List.{All}
use Rattle.ibc_ledger_lock.specs.ReceiptsAndReadings.{IsBehind}
use Rattle.ibc_script_races.specs.KeptReceipts.{told_by}
use Rattle.ibc_script_races.specs.Racing.{IsAsked}
use Rattle.ibc_script_races.proofs.Receipts.{behind_all, kept, mapped_some}
use Rattle.ibc_race_counts.proofs.AnsweredLogs.{stay_answered}
use Rattle.ibc_race_counts.proofs.log.RelayerLog.ask.Goals as goal

pub invariant_of-self : goal.invariant_of-self
invariant_of-self g c =
    let told = c.asked-receipt.result in
    let number = c.number.result in
    let old = c.self.inside.receipts.items in
    let of : told.chain ≡ number = c.asked-receipt.ensures.told.0 ∙ sym c.requires ∙ sym c.number.ensures in
    let after_last = mapped_some (λ b. b.now) (IsBehind told) c.last_of-earlier.result c.asked-receipt.ensures.behind in
    let behind : All (IsBehind told) old =
    subst (All (IsBehind told)) c.as_slice.ensures.value (behind_all c.as_slice.result.now _ told number of c.last_of-earlier.ensures after_last) in
    stay_answered c.keep.result told c.args.event old c.keep.new.receipts.items c.self.invariant c.asked-receipt.ensures.told behind c.keep.ensures.kept
    c.keep.ensures.left c.keep.ensures.told c.keep.ensures.answered

pub returns-clause-asked : goal.returns-clause-asked
returns-clause-asked g c =
    subst (λ (l : List _). IfOk c.keep.result (λ given. IsAsked (map told_by l) c.args.event given (map told_by c.keep.new.receipts.items))) c.self.view_is
    (kept c.keep.result c.asked-receipt.result c.args.event c.self.inside.receipts.items c.keep.new.receipts.items c.asked-receipt.ensures.told
    c.keep.ensures.kept c.keep.ensures.told c.keep.ensures.answered)
