pub mod Lanes
pub mod Rounds
pub mod Inner
pub mod Leaves
pub mod Texts
