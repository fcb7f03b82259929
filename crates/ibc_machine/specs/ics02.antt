-- Clients (ICS 2).
pub mod Clients
