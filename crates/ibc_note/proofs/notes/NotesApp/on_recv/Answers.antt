-- The acknowledgement is the one of a success, and the packet's payload joins the notes.
use Rattle.std.proofs.Common.{refl}
use Rattle.ibc_machine.specs.chain.Notes.{receive_note}
use Rattle.ibc_note.proofs.notes.NotesApp.on_recv.Goals as goal

pub returns-clause-ok : goal.returns-clause-ok
unfolding receive_note
returns-clause-ok c = rw (c.in_ok-ack.ensures, c.in_ok-add.ensures.ok, c.in_ok-note.ensures.cases) refl
