pub mod Relaying
pub mod EndedBlocks
pub mod WorldChains
