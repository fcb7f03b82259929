pub mod RacedLedgers
pub mod ReadScripts
pub mod ShortScripts
pub mod Shrinking
pub mod Simulations
