pub mod UnitLemmas
pub mod Files
pub mod Returning
pub mod Having
pub mod Slots
