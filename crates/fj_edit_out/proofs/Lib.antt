pub mod Digits
pub mod Rows
pub mod Numerals
pub mod FieldCases
