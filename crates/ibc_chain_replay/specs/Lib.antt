pub mod Publishing
pub mod ChainReplays
pub mod StoredLedgers
