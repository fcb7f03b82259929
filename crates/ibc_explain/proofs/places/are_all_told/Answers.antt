-- Those that were looked at are told, and behind them there is no chain.
use Rattle.std.proofs.Common.{Bor, arith, length, slice_get}
use Rattle.ibc_ledger.specs.LedgerModel.{LedgerModel}
use Rattle.ibc_explain.proofs.Counting.{all_told, nothing_there}
use Rattle.ibc_explain.proofs.places.are_all_told.Goals as goal

pub returns : goal.returns
returns c all =
    all_told c.args.world.now.ledgers c.args.told.now
    (nothing_there (λ (l : Bor LedgerModel). l.now.ledger) c.ledger.result c.is_some.result (slice_get c.args.world.now.ledgers (length c.args.told.now)) c.ledger.ensures c.is_some.ensures c.if-is_some.false)
    (λ k low. c.loop-chain.invariant k (omega (arith, low)))
