pub mod FieldCases
pub mod Halves
pub mod Leading
pub mod Scanned
pub mod Trimmed
pub mod BlankLaws
