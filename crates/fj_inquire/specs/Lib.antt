pub mod Values
pub mod Inquiring
pub mod Asking
pub mod Laws
