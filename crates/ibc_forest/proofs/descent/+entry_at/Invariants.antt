use Rattle.ibc_forest.proofs.descent.+entry_at.Given as goal

abbrev pub decreases-entry_at : goal.decreases-entry_at
decreases-entry_at l = l.count
