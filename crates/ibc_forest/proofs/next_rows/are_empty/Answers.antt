-- One gap more with no pair gone and none come.
use Rattle.ibc_forest.specs.declared.gap.Gap.{Gap}
use Rattle.ibc_forest.proofs.NoGap.{next_empty}
use Rattle.ibc_forest.proofs.next_rows.are_empty.Goals as goal

abbrev none : Gap
none = record { kept = 0; gone = 0; come = 0 }

pub loop-i-preserved : goal.loop-i-preserved
loop-i-preserved c = λ rest.
    c.loop-i.invariant
    (λ last pairs differ. next_empty c.args.gaps.now c.loop-i.i none last pairs c.loop-i-test.true c.if-gaps-i-ne0.false c.if-gaps-i-ne0-2.false rest differ)
