use Rattle.std.proofs.Common.{◌≡◌, ◌∙◌, ap, subst, sym}
use Rattle.ibc_ledger.specs.SentPackets.{happened_on}
use Rattle.ibc_ledger_lock.specs.Calls.{AreCallsOf, calls_for}
use Rattle.ibc_ledger_lock.specs.KnownLedgers.{KnownLedger}
use Rattle.ibc_ledger_lock.specs.Books.{IsKnownBeginning}
use Rattle.ibc_ledger_lock.specs.ReceiptsAndReadings.{known_with}
use Rattle.ibc_ledger_lock.proofs.Noting.{written_first}
use Rattle.ibc_ledger_lock.proofs.Pages.{nothing_begins}
use Rattle.ibc_ledger_lock.proofs.locked_ledger.LockedLedger.new.Goals as goal

pub note-requires : goal.note-requires
note-requires g c =
    let now = known_with c.args.ledger.ledger (calls_for (happened_on c.args.ledger.ledger)) in
    record { later = subst (λ (known : KnownLedger). IsKnownBeginning known now) (sym c.opened.invariant) (nothing_begins now) }

pub invariant_of-result : goal.invariant_of-result
invariant_of-result g c =
    let ledger = c.args.ledger.ledger in
    let noted = c.note.ensures.keeper.1 in
    let calls : c.note.new.self.known.calls ≡ calls_for (happened_on ledger) = ap (λ (k : KnownLedger). k.calls) noted in (
      c.requires.world.0,
      c.requires.world.1,
      c.note.ensures.keeper.0 ∙ c.opened.view_is ∙ c.requires.book,
      noted ∙ ap (known_with ledger) (sym calls),
      subst (AreCallsOf ledger) (sym calls) (written_first (happened_on ledger)),
    )
