-- The ledgers that begin are a world.
use Rattle.std.proofs.Common.{sym, subst, rules}
use Rattle.std.specs.Prelude.{IsTrue}
use Rattle.ibc_machine.specs.chain.Genesis.{genesis_state, is_allowed}
use Rattle.ibc_refinement.specs.World.{IsWorld}
use Rattle.ibc_world_core.specs.WorldModel.{ledgers_alone}
use Rattle.ibc_world_core.proofs.Beginnings.{begun_are_new, begun_is_world, begun_at_one_table}
use Rattle.ibc_world_core.proofs.world.World.new.Goals as goal

pub invariant_of-result : goal.invariant_of-result
invariant_of-result c =
    let genesis = genesis_state c.args.genesis.now in
    let ledgers = c.in-Ok.ledgers.items in
    let begun = c.in-Ok.ensures.ok in
    let allowed : IsTrue (is_allowed genesis) = search rules in
    record {
      world =
          subst (λ g. IsWorld (record { genesis = genesis_state g; ledgers = ledgers_alone ledgers; order = c.new.result.items })) (sym c.of.ensures)
          (begun_is_world genesis begun.0 ledgers begun.1 c.new.result.items c.new.ensures.items allowed);
      tables = begun_at_one_table genesis begun.0 ledgers begun.1;
    }

pub returns-in-Ok-clause-ledgers : goal.returns-in-Ok-clause-ledgers
returns-in-Ok-clause-ledgers c =
    let begun = c.in-Ok.ensures.ok in
    begun_are_new (genesis_state c.args.genesis.now) begun.0 c.in-Ok.ledgers.items begun.1
