-- The test of two texts is the definitions' own.
use Rattle.std.proofs.Common.{refl}
use Rattle.ibc_note.proofs.notes.is_note_port.Goals as goal

pub returns : goal.returns
returns c = rw (c.eq.ensures, c.as_str.ensures.text) refl
