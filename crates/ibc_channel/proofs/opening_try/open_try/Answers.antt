-- Taking the remembered hashes out of the records, and keeping them, changes nothing of what the records are.
use Rattle.std.proofs.Common.{sym}
use Rattle.ibc_channel.proofs.opening_try.open_try.Goals as goal

pub returns-clause-answer : goal.returns-clause-answer
returns-clause-answer g c = λ chain chains. rw (c.keep_memory.ensures, sym c.take_memory-memory.ensures) (c.open_try_with-answer.ensures.answer chain chains)

pub returns-clause-named : goal.returns-clause-named
returns-clause-named g c = rw (sym c.take_memory-memory.ensures) c.open_try_with-answer.ensures.named
