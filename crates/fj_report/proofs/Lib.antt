pub mod Fronts
pub mod Joins
pub mod Cases
pub mod GivenLemmas
