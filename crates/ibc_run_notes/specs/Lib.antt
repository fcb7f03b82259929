pub mod Counts
pub mod Findings
pub mod Flights
pub mod KnownEnds
