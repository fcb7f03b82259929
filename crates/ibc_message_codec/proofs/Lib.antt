pub mod PayloadReaders
pub mod MessageReader
