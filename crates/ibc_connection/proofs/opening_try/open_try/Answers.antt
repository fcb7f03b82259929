-- Taking the remembered hashes out of the records, and keeping them, changes nothing of what the records are.
use Rattle.std.proofs.Common.{sym}
use Rattle.ibc_connection.proofs.opening_try.open_try.Goals as goal

pub returns-clause-answer : goal.returns-clause-answer
returns-clause-answer c = λ chains. rw (c.keep_memory.ensures, sym c.take_memory-memory.ensures) (c.open_try_with-answer.ensures.answer chains)

pub returns-clause-named : goal.returns-clause-named
returns-clause-named c = rw (sym c.take_memory-memory.ensures) c.open_try_with-answer.ensures.named
