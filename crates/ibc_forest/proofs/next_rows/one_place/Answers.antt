-- The one gap.
use Rattle.ibc_forest.proofs.OneLeaf.{one_other}
use Rattle.ibc_forest.proofs.next_rows.one_place.Goals as goal

pub returns-then-gap-eq1-2 : goal.returns-then-gap-eq1-2
returns-then-gap-eq1-2 c = one_other c.args.gaps.now (record { kept = 0; gone = 0; come = 0 }) c.if-gaps-ne1.false c.if-gap-eq1.true c.if-gap-eq1-2.true
