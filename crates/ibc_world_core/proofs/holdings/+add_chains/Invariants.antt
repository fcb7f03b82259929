use Rattle.ibc_world_core.proofs.holdings.+add_chains.Given as goal

abbrev pub decreases-add_chains : goal.decreases-add_chains
decreases-add_chains l = l.chains
