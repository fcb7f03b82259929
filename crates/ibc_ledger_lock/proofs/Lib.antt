pub mod Ending
pub mod LastBlocks
pub mod Noting
pub mod Pages
pub mod Places
