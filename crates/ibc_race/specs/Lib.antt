pub mod SharedWorlds
pub mod BookedLedgers
