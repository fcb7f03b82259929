use Rattle.ibc_laws.proofs.notes.StoredNotes.{lemma_notes_stay}
use Rattle.ibc_laws.proofs.lemma_notes_stay.Goals as goal

pub returns : goal.returns
returns c = lemma_notes_stay
