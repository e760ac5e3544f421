mod DigitCases
pub mod DigitLaws
