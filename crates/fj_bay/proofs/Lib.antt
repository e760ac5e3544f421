pub mod Keeping
pub mod Differences
pub mod Behind
pub mod BayProofs
pub mod Controlled
pub mod Performed
pub mod Sends
