use Rattle.std.proofs.Common.{◌≡◌, IfSome}
use Rattle.ibc_ledger_lock.specs.ReceiptsAndReadings.{IsLedgerOf}
use Rattle.ibc_ledger_lock.proofs.board.Board.latest.Given as goal

abbrev pub invariant-loop-index : goal.invariant-loop-index
invariant-loop-index g l = IfSome l.best (λ posted. IsLedgerOf g.W.WorldBrand.table g.W.WorldBrand.genesis posted.now × (posted.now.ledger.chain ≡ l.fn.chain))
