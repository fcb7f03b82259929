-- Connections (ICS 3).
pub mod Connections
