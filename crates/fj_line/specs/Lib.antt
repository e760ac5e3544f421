pub mod Line
pub mod Actions
pub mod Records
pub mod Page
