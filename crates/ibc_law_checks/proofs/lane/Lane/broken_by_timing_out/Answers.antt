-- The first broken law tells whether each law holds.
use Rattle.ibc_law_checks.proofs.JudgedLanes.{timing_out_judged}
use Rattle.ibc_law_checks.proofs.lane.Lane.broken_by_timing_out.Goals as goal

pub returns : goal.returns
returns c = rw c.first_broken_by_timing_out.ensures (timing_out_judged _ c.args.packet.now c.lemma_is_lawful.ensures)
