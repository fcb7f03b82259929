mod Facts
pub mod Fronts
pub mod Whole
pub mod FieldReaders
pub mod Readers
pub mod RecordReaders
pub mod TokenReaders
pub mod ProofReaders
pub mod TypedTokens
pub mod Tags
pub mod Writing
pub mod ValueSequences
