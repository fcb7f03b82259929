pub mod Handshake
pub mod FoundRecords
