pub mod StoredSteps
pub mod SameStates
