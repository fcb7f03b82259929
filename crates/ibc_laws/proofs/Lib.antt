pub mod basics
pub mod steps
pub mod peers
pub mod packets
pub mod ends
pub mod tokens
pub mod notes
pub mod wrong
