pub mod Deck
pub mod Faults
pub mod Line
pub mod Seen
