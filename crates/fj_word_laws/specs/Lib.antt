pub mod Specifiers
pub mod Transfers
