-- Taking the remembered hashes out of the records, and keeping them, changes nothing of what the records are.
use Rattle.std.proofs.Common.{sym}
use Rattle.ibc_connection.proofs.opening_ack.open_ack.Goals as goal

pub returns : goal.returns
returns c = λ chains. rw (c.keep_memory.ensures, sym c.take_memory-memory.ensures) (c.open_ack_with-answer.ensures chains)
