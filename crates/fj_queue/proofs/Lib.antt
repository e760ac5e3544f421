pub mod Cells
pub mod Keeps
pub mod Moves
pub mod Counts
pub mod Calls
pub mod QueueLaws
