use Rattle.std.proofs.Common.{subst}
use Rattle.ibc_world_core.specs.EveryWorld.{IsLawfulUnlessClash}
use Rattle.ibc_script_worlds.proofs.worlds.WorldFactoryWorlds.lemma_keeps.Goals as goal

pub returns : goal.returns
returns c = subst IsLawfulUnlessClash c.chains.view_is c.lemma_what_every_world_keeps.ensures
