use Rattle.ibc_world_core.specs.WorldModel.{ledgers_alone}
use Rattle.ibc_world_core.specs.Totals.{FirstHold}
use Rattle.ibc_world_core.proofs.totals.lemma_each_holds_denominations.Given as goal

abbrev pub invariant-loop-ledger : goal.invariant-loop-ledger
invariant-loop-ledger l = FirstHold l.ledger-index (ledgers_alone l.ledgers)
