pub mod KeptReceipts
pub mod Racing
