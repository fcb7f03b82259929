mod Facts
pub mod Texts
pub mod Splits
pub mod Paths
pub mod Ascii
pub mod Maps
pub mod Numbered
pub mod Sequences
pub mod KeyParts
pub mod Hops
