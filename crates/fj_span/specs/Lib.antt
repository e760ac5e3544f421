pub mod Change
pub mod ChangeLaw
