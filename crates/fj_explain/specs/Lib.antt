pub mod Breaks
pub mod Explains
