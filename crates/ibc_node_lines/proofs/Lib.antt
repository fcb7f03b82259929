pub mod Along
pub mod Asked
pub mod Texts
pub mod Served
pub mod NodeRuns
pub mod OnlyRead
