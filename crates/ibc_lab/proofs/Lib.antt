pub mod Lists
pub mod Objects
pub mod Totals
pub mod Allowed
pub mod Verdicts
