-- The test of two texts is the definitions' own.
use Rattle.std.proofs.Common.{refl}
use Rattle.ibc_explain.proofs.outcome.is_success.Goals as goal

pub returns : goal.returns
returns c = rw (c.eq.ensures, c.as_bytes.ensures.value) refl
