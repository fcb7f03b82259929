-- Lists, numbers and tests.
pub mod PassedTests
pub mod Lists
pub mod ListTests
pub mod ListPlaces
pub mod Numbered
