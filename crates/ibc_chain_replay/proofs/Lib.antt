pub mod ChainStates
pub mod ForcedReplies
pub mod ChainSteps
pub mod DealtPasses
