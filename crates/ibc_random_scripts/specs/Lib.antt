pub mod Draws
pub mod ScriptTexts
