-- What the look told is kept, unless something was found before.
use Rattle.ibc_run_notes.proofs.run_notes.RunNotes.look_at_all.Goals as goal

pub returns : goal.returns
returns c = (c.in_ok-found.found, c.in_ok-found.ensures, c.keep.ensures)
