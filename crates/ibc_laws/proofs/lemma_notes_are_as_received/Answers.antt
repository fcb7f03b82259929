use Rattle.ibc_laws.proofs.notes.StoredNotes.{lemma_notes_are_received}
use Rattle.ibc_laws.proofs.lemma_notes_are_as_received.Goals as goal

pub returns : goal.returns
returns c = lemma_notes_are_received
