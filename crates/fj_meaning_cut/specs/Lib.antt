pub mod Others
pub mod Turning
pub mod Stopping
pub mod Cases
pub mod Awaiting
