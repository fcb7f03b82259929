-- Transfers of tokens (ICS 20).
pub mod TokenData
pub mod Bank
pub mod Transfers
pub mod ReturningTokens
