pub mod WordLemmas
pub mod Refusals
pub mod Reopening
pub mod FileNameLemmas
