pub mod Gathering
pub mod Handing
pub mod Inside
pub mod Kinds
pub mod Outputs
pub mod Shown
