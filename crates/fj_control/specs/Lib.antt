pub mod Steps
pub mod Walk
pub mod Walker
pub mod Cursor
pub mod Paired
