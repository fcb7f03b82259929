pub mod Refinement
pub mod Stamps
pub mod Audits
pub mod LedgerGrowth
pub mod World
pub mod Steps
pub mod Meetings
