pub mod Fields
pub mod Source
pub mod Explicit
pub mod Reads
pub mod Fitting
