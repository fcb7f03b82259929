pub mod AnsweredReceipts
pub mod CountedRaces
pub mod CountedReceipts
