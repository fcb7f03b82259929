pub mod ConnectionHandshake
pub mod ConnectionHandlers
