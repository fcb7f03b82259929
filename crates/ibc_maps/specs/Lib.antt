pub mod SortedMapModel
pub mod Lending
pub mod Sides
pub mod Chunks
pub mod Changes
pub mod SettledPairs
pub mod Merging
