use Rattle.std.proofs.Common.{◌≡◌, ◌∙◌, Option, true, IfSome, ap, sym, subst}
use Rattle.ibc_machine.specs.ledger.Ledgers.{is_block_reply}
use Rattle.ibc_ledger.specs.LedgerModel.{LedgerModel}
use Rattle.ibc_ledger_lock.specs.ReceiptsAndReadings.{ShowsEnd, view_shown}
use Rattle.ibc_ledger_lock.proofs.Ending.{looked}
use Rattle.ibc_ledger_lock.proofs.locked_ledger.LockedLedger.produce_and_look.Goals as goal
use Rattle.ibc_ledger_lock.proofs.locked_ledger.LockedLedger.produce_and_look.Goals.{then-is_end, else-is_end}

pub returns-clause-view : goal.returns-clause-view
returns-clause-view g c =
    let told = c.produce-receipt in
    let P : Option LedgerModel → Type 0 = λ o. IfSome o (λ held. (held ≡ told.new.self.held) × ShowsEnd told.result (view_shown held)) in
    elim c.if-is_end.branch [
      | then-is_end w ↦
          let end : is_block_reply told.result.reply ≡ true = ap is_block_reply (sym c.reply.ensures) ∙ sym c.is_end.ensures ∙ w.if-is_end.true in
          subst P (sym w.posted-is) (looked c.args.self.now.held.ledger told.new.self.held c.args.next_time told.result told.ensures.adds told.ensures.told.0 end w.look-posted.result w.look-posted.ensures)
      | else-is_end w ↦ subst P (sym w.posted-is) tt
    ]
