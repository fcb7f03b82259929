pub mod Laws
pub mod AbstractNotes
pub mod NoteHandlers
