-- No step was added so far, and those that are kept still do it.
use Rattle.ibc_sim.specs.Shrinking.{KeepsNoMore, StillDo}
use Rattle.ibc_sim.proofs.shrinking.without_parts.Given as goal

abbrev pub invariant-loop-part : goal.invariant-loop-part
invariant-loop-part g l = record {
  fewer : KeepsNoMore l.initial.kept.items l.kept.items;
  does : StillDo (g.B.Breaks.does l.breaks) l.initial.kept.items l.kept.items;
}
