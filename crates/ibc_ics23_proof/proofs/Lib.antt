pub mod NodeTexts
pub mod PathTurns
