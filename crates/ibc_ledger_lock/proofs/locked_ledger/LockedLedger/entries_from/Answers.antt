use Rattle.std.proofs.Common.{◌∙◌, ◌-◌, sym, ap, arith, drop, length, map}
use Rattle.std.proofs.lemmas.List.{drop-map, length-drop, take_all}
use Rattle.ibc_ledger.specs.LedgerModel.{abstract_entry}
use Rattle.ibc_ledger_lock.specs.ReceiptsAndReadings.{SharedLedger}
use Rattle.ibc_ledger_lock.proofs.locked_ledger.LockedLedger.entries_from.Goals as goal

pub returns-then-place-history : goal.returns-then-place-history
returns-then-place-history g c =
    let h = c.history-history.result.now in
    ap (map abstract_entry) (take_all (length h - c.args.place) (drop c.args.place h) (omega (arith, length-drop c.args.place h)))
    ∙ sym (drop-map abstract_entry c.args.place h) ∙ ap (λ l. drop c.args.place l) c.history-history.ensures
    ∙ ap (λ (s : SharedLedger). drop c.args.place s.held.ledger.history) c.self.view_is
