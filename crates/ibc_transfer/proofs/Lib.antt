pub mod Receiving
pub mod Settling
pub mod Sends
pub mod Moves
pub mod ByBank
pub mod Flight
