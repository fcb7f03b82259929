-- What a ledger answers: a chain that sees the others through published roots and proofs alone.
pub mod Replay
pub mod Ledgers
pub mod Merge
