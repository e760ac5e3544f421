pub mod Words
pub mod Bytes
pub mod Members
pub mod Answers
pub mod Agreeing
