pub mod Causes
pub mod Serving
pub mod Ledger
pub mod Slot
pub mod Telling
pub mod Sound
pub mod Laws
