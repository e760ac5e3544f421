pub mod Item
pub mod OutputField
