pub mod FirstFindings
pub mod FoundItems
