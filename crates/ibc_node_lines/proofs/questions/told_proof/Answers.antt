-- The encoding is told.
use Rattle.ibc_node_lines.proofs.questions.told_proof.Goals as goal

pub returns : goal.returns
returns c = (c.in_ok-encoding.encoding, c.in_ok-encoding.ensures, c.in_ok-told_bytes.ensures)
