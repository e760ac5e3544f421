pub mod Naming
pub mod Sound
pub mod Units
