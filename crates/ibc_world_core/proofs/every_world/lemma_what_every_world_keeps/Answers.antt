-- A world has its past.
use Rattle.ibc_world_core.proofs.Lawful.{lawful}
use Rattle.ibc_world_core.proofs.every_world.lemma_what_every_world_keeps.Goals as goal

pub returns : goal.returns
returns c = λ clash. lawful c.lemma_the_laws_hold.ensures c.args.world.now c.lemma_has_past.ensures.0 (c.lemma_has_past.ensures.2 clash)
