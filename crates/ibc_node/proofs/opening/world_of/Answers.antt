-- The world is that of the genesis that the text says.
use Rattle.std.proofs.lemmas.Result.{err_from_is_err_and}
use Rattle.ibc_machine.specs.chain.Genesis.{genesis_state}
use Rattle.ibc_node.proofs.Opened.{world_of_text}
use Rattle.ibc_node.proofs.opening.world_of.Goals as goal

pub returns-clause-world : goal.returns-clause-world
returns-clause-world c = world_of_text c.args.text.now (genesis_state c.in_ok-genesis.genesis) c.new_world-world.result c.in_ok-genesis.ensures.genesis c.new_world-world.ensures.begins c.new_world-world.ensures.allowed

pub returns-in_err-genesis-clause-faults : goal.returns-in_err-genesis-clause-faults
returns-in_err-genesis-clause-faults c =
    let p = err_from_is_err_and c.from_residual.result c.from_residual.ensures.1 in
    rw (p.1, p.2) c.in_err-genesis.ensures.faults

pub returns-clause-faults : goal.returns-clause-faults
returns-clause-faults c = c.new_world-world.ensures.faults
