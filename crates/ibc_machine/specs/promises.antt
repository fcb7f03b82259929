-- What is promised of every run, of worlds and of audits.
pub mod Histories
pub mod Peers
pub mod Totals
pub mod Laws
pub mod Worlds
