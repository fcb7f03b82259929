use Rattle.std.proofs.Common.{subst, sym}
use Rattle.ibc_machine.specs.chain.Genesis.{GenesisState, genesis_state}
use Rattle.ibc_script_worlds.specs.WorldChains.{AreStartsOf, IsNewWorld}
use Rattle.ibc_script_worlds.proofs.WorldLooks.{new_ledgers}
use Rattle.ibc_script_worlds.proofs.worlds.WorldFactoryWorlds.begin.Goals as goal

pub script_world-requires-clause-starts : goal.script_world-requires-clause-starts
script_world-requires-clause-starts c =
    subst (λ (g : GenesisState). AreStartsOf g c.in-Ok.starts) (sym c.in_ok-world.ensures.genesis) c.in-Ok.ensures

pub script_world-requires-clause-ledgers : goal.script_world-requires-clause-ledgers
script_world-requires-clause-ledgers c =
    new_ledgers (genesis_state c.args.genesis.now) c.in_ok-world.world c.new.result c.in_ok-world.was c.new.ensures.bad c.in_ok-world.ensures.genesis c.in_ok-world.ensures.ledgers

pub returns-in-Ok : goal.returns-in-Ok
returns-in-Ok c =
    subst (IsNewWorld (genesis_state c.args.genesis.now)) (sym c.script_world.ensures)
    (c.in_ok-world.ensures.genesis, c.in_ok-world.ensures.ledgers, c.in_ok-world.ensures.order)
