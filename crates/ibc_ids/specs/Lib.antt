pub mod Texts
pub mod Maps
pub mod Names
pub mod Paths
pub mod Publications
pub mod Refusals
pub mod Storage
