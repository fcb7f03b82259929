pub mod Applications
pub mod ChainNames
pub mod EventKinds
pub mod Faults
pub mod ReadValues
pub mod Scripts
pub mod ScriptValues
pub mod StepReading
