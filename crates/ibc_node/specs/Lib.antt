pub mod Kept
pub mod Nodes
pub mod Audits
pub mod Marks
pub mod Faults
pub mod Starts
pub mod ReadBack
pub mod Turns
