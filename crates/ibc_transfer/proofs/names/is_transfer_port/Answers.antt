-- The test of two texts is the definitions' own.
use Rattle.std.proofs.Common.{refl}
use Rattle.ibc_transfer.proofs.names.is_transfer_port.Goals as goal

pub returns : goal.returns
returns c = rw (c.eq.ensures, c.as_str.ensures.text) refl
