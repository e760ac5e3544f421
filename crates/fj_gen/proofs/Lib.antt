pub mod Steps
pub mod WorkedCases
