pub mod Lists
pub mod EndMessages
pub mod Tracking
pub mod PlannedMessages
pub mod Idle
