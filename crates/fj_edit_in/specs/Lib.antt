pub mod InputField
pub mod Scan
