pub mod Unit
pub mod Held
pub mod Statements
pub mod Program
