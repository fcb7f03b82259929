pub mod Handshake
pub mod Opened
