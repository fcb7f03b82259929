-- The first broken law tells whether each law holds.
use Rattle.ibc_law_checks.proofs.JudgedLanes.{sending_judged}
use Rattle.ibc_law_checks.proofs.lane.Lane.broken_by_sending.Goals as goal

pub returns : goal.returns
returns c = rw c.first_broken_by_sending.ensures (sending_judged _ c.args.packet.now c.lemma_is_lawful.ensures)
