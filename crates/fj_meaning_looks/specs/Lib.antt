pub mod Looking
pub mod Inquiring
pub mod Stretches
pub mod Meeting
pub mod Losing
pub mod Worlds
pub mod Laws
