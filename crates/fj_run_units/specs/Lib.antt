pub mod Units
pub mod Names
pub mod Files
pub mod Returning
pub mod Having
