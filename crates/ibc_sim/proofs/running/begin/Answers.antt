-- What is looked at is the world that begins.
use Rattle.std.proofs.Common.{sym, subst}
use Rattle.ibc_machine.specs.chain.Genesis.{genesis_state}
use Rattle.ibc_script_worlds.specs.WorldChains.{IsNewWorld}
use Rattle.ibc_sim.proofs.running.begin.Goals as goal

pub returns-in-Ok : goal.returns-in-Ok
returns-in-Ok c = subst (IsNewWorld (genesis_state c.args.script.now.genesis)) (sym c.new-checked.ensures) c.in-Ok.ensures
