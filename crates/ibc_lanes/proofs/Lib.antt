mod Vectors
mod Majorities
mod Rotations
mod Blocks
mod Padded
mod Digests
mod Ends
mod LeafTexts
