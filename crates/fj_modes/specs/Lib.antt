pub mod Words
pub mod OpenSpec
pub mod Modes
pub mod Laws
pub mod FileName
pub mod NameLaws
pub mod Limits
pub mod ModeWords
