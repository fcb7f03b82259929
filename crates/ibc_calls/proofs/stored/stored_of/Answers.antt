-- Where nothing is kept of an entry, it is outside its form, or memory ran out.
use Rattle.std.proofs.Common.{inl, inr, ap, Err}
use Rattle.ibc_calls.proofs.stored.stored_of.Goals as goal

pub returns-in-Err : goal.returns-in-Err
returns-in-Err c = elim c.in-Err.ensures.err [ inl is ↦ inl (is, c.in-Err.ensures.none (ap Err is)) | inr is ↦ inr is ]
