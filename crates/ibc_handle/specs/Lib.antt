pub mod Joining
pub mod LedgersModel
pub mod OwnedBoxes
