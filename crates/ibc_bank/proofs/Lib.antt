mod Parties
pub mod Writes
mod Tallies
mod Carried
mod Starts
mod Changed
mod MoveSequences
pub mod AnyOrder
mod StartOrders
mod Rising
