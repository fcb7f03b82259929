pub mod AbstractData
pub mod Spelling
pub mod Cutting
pub mod FittingAmounts
pub mod ShownParties
