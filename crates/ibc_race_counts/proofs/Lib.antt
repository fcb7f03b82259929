pub mod AnsweredLogs
pub mod CountedLedgers
pub mod CountedLogs
