pub mod Cases
pub mod Carried
pub mod Fitting
pub mod Starting
