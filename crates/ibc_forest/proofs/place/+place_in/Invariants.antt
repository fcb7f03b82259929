use Rattle.ibc_forest.proofs.place.+place_in.Given as goal

abbrev pub decreases-place_in : goal.decreases-place_in
decreases-place_in l = l.count
