pub mod Walks
pub mod Reversion
pub mod Control
pub mod Cases
pub mod Pairing
