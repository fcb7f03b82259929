pub mod Codes
pub mod NumberedCalls
