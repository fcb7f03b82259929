use Rattle.ibc_forest.proofs.descent.+operations_from.Given as goal

abbrev pub decreases-operations_from : goal.decreases-operations_from
decreases-operations_from l = l.count
