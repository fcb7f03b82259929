-- The law of notes: what is kept is what was received.
pub mod StoredNotes
