pub mod Refusals
pub mod Answers
pub mod AnswerFronts
pub mod Times
pub mod Stored
