-- Taking the remembered hashes out of the records, and keeping them, changes nothing of what the records are.
use Rattle.std.proofs.Common.{sym}
use Rattle.ibc_records.proofs.receiving.recv.Goals as goal

pub returns-clause-answer : goal.returns-clause-answer
returns-clause-answer g c = λ chain chains. rw (c.keep_memory.ensures, sym c.take_memory-memory.ensures) (c.recv_with-answer.ensures.answer chain chains)
