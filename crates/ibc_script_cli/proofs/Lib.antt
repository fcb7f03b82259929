pub mod AskedWords
pub mod Ended
mod PrintedLines
pub mod Looks
pub mod Reaching
pub mod Turns
pub mod Writing
