-- Relayers (ICS 18).
pub mod Relay
