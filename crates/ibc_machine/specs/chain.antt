-- What a chain keeps and does, and the machine of all chains.
pub mod Records
pub mod Checks
pub mod Notes
pub mod Applications
pub mod Handlers
pub mod Genesis
pub mod Machine
pub mod CoreFlight
pub mod Orderly
