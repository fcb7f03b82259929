-- What is listed so far, and what the map's iterator has left, are the entries.
use Rattle.std.proofs.Common.{◌≡◌, map, ◌++◌}
use Rattle.ibc_note.specs.AbstractNotes.{abstract_notes}
use Rattle.ibc_note.proofs.notes.Notes.all.Given as goal

abbrev pub invariant-loop-channel : goal.invariant-loop-channel
invariant-loop-channel l = map abstract_notes l.all.items ++ l.channel-iterator ≡ l.self
