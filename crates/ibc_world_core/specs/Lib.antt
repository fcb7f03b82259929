pub mod WorldAudits
pub mod WorldModel
pub mod WorldFields
pub mod Totals
pub mod LedgerEnds
pub mod EveryWorld
pub mod EveryAudit
