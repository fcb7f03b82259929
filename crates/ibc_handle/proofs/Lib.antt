pub mod Values
pub mod Crossing
pub mod Fields
pub mod OneWorld
