pub mod Ascii
pub mod StepWords
pub mod Values
