pub mod RefusalNumbers
pub mod AnswerReaders
pub mod StoredEntries
