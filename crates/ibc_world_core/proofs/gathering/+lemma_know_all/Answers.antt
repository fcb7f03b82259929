-- The first, and each of the rest.
use Rattle.std.proofs.Common.{arith}
use Rattle.ibc_machine.specs.ledger.Ledgers.{IsLedger}
use Rattle.ibc_ledger.specs.LedgerModel.{LedgerModel}
use Rattle.ibc_world_core.proofs.Firsts.{known_all}
use Rattle.ibc_world_core.proofs.gathering.+lemma_know_all.Goals as goal

pub returns-in-len1-up-clause-are : goal.returns-in-len1-up-clause-are
returns-in-len1-up-clause-are t c =
    known_all (λ (h : LedgerModel). IsLedger h.ledger) c.args.ledgers.now c.first-item.result (omega arith) c.first-item.is c.lemma_is_its_history.ensures.is c.lemma_know_all.ensures.are
