-- Channels and packets (ICS 4).
pub mod Channels
pub mod Packets
pub mod Parts
pub mod Proving
