-- The chains are those of a new world.
use Rattle.ibc_explain.proofs.running.run.Goals as goal

pub run_on-requires : goal.run_on-requires
run_on-requires c = c.in-Ok.ensures
