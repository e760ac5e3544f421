pub mod Looks
pub mod Stretches
pub mod Lines
pub mod Answers
