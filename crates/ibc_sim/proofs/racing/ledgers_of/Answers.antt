-- One ledger more.
use Rattle.std.proofs.Common.{All, subst, sym}
use Rattle.std.proofs.lemmas.List.Elements.{All-push}
use Rattle.ibc_ledger_lock.specs.ReceiptsAndReadings.{HasAnswered, IsOfWorld}
use Rattle.ibc_sim.proofs.racing.ledgers_of.Goals as goal

pub loop-chain-preserved : goal.loop-chain-preserved
loop-chain-preserved g c =
    let ledgers = c.loop-chain.ledgers.items in
    let held = c.into_ledger-ledger.result in
    let receipts = c.args.receipts.now in
    let pushed = sym c.in_ok-push.ensures.items in
    record {
      world = subst (All (IsOfWorld g.W.WorldBrand.table g.W.WorldBrand.genesis)) pushed
          (All-push (IsOfWorld g.W.WorldBrand.table g.W.WorldBrand.genesis) ledgers held c.loop-chain.invariant.world c.into_ledger-ledger.ensures.world);
      answered = subst (All (HasAnswered receipts)) pushed
          (All-push (HasAnswered receipts) ledgers held c.loop-chain.invariant.answered c.into_ledger-ledger.ensures.answered);
    }
