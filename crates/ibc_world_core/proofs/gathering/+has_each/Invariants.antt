use Rattle.ibc_world_core.proofs.gathering.+has_each.Given as goal

abbrev pub decreases-has_each : goal.decreases-has_each
decreases-has_each l = l.chains
