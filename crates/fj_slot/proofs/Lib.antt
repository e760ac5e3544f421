pub mod Rows
pub mod Given
pub mod Serving
pub mod Counted
pub mod Sound
pub mod SlotLaws
