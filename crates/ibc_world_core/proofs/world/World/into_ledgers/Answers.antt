-- The ledgers of a world are of one.
use Rattle.ibc_world_core.proofs.OneWorld.{world_is}
use Rattle.ibc_world_core.proofs.world.World.into_ledgers.Goals as goal

pub returns-clause-world : goal.returns-clause-world
returns-clause-world c = world_is c.self.inside c.self.invariant
