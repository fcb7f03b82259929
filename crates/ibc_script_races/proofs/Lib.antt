pub mod Crossing
pub mod Raced
pub mod Receipts
pub mod Standing
