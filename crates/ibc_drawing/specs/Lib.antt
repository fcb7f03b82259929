pub mod Escaped
pub mod Lanes
pub mod Packets
pub mod Ticks
