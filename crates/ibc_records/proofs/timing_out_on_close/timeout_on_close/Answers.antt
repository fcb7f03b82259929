-- Taking the remembered hashes out of the records, and keeping them, changes nothing of what the records are.
use Rattle.std.proofs.Common.{sym}
use Rattle.ibc_records.proofs.timing_out_on_close.timeout_on_close.Goals as goal

pub returns : goal.returns
returns g c = λ chain chains. rw (c.keep_memory.ensures, sym c.take_memory-memory.ensures) (c.timeout_on_close_with-answer.ensures chain chains)
