use Rattle.std.proofs.Common.{List, sym, subst}
use Rattle.std.proofs.lemmas.Result.{IfOk-weaker}
use Rattle.ibc_machine.specs.chain.Genesis.{genesis_state}
use Rattle.ibc_ledger.specs.LedgerModel.{LedgerModel}
use Rattle.ibc_refinement.specs.World.{AreNew}
use Rattle.ibc_world_core.specs.WorldModel.{ledgers_alone}
use Rattle.ibc_race.proofs.Booked.{are_booked}
use Rattle.ibc_race.proofs.begin.Goals as goal

pub returns-clause-new : goal.returns-clause-new
returns-clause-new c =
    let new : AreNew (genesis_state c.args.genesis.now) (ledgers_alone c.into_ledgers.result.items) =
    subst (AreNew (genesis_state c.args.genesis.now)) (sym c.into_ledgers.ensures.ledgers) c.in_ok-world.ensures.ledgers in
    IfOk-weaker c.with_books.result _ _ (λ booked same. subst (λ (ls : List LedgerModel). AreNew (genesis_state c.args.genesis.now) (ledgers_alone ls)) (sym same) new)
    c.with_books.ensures.ok

pub returns-clause-books : goal.returns-clause-books
returns-clause-books c =
    let new : AreNew (genesis_state c.args.genesis.now) (ledgers_alone c.into_ledgers.result.items) =
    subst (AreNew (genesis_state c.args.genesis.now)) (sym c.into_ledgers.ensures.ledgers) c.in_ok-world.ensures.ledgers in
    IfOk-weaker c.with_books.result _ _
    (λ booked same. are_booked (genesis_state c.args.genesis.now) booked.items c.into_ledgers.result.items same c.into_ledgers.ensures.world new)
    c.with_books.ensures.ok
