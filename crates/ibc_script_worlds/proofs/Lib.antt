pub mod FoundBlocks
pub mod ToldBlocks
pub mod WorldLooks
