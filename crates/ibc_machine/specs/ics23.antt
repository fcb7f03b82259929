-- Which texts are hashed, for the proofs of ICS 23.
pub mod HashedTexts
