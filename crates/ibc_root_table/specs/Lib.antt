pub mod Publications
pub mod Layout
pub mod Passes
pub mod Rule
pub mod SeatSteps
pub mod TableFields
pub mod TableCalls
