mod Facts
pub mod EqualTrees
pub mod Varints
pub mod Digests
pub mod Trees
pub mod KeptDigests
pub mod Sorted
pub mod Edits
pub mod SearchedPairs
pub mod Climbs
pub mod Writes
pub mod Paths
pub mod LeafPaths
pub mod Accepted
pub mod Presences
pub mod Clashes
pub mod Depths
