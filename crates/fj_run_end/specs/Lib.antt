pub mod Serving
pub mod Remains
pub mod Losing
pub mod Finding
pub mod Closing
pub mod Holding
pub mod Fitting
pub mod Ended
