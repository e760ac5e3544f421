pub mod formers
pub mod Condition
pub mod Edit
pub mod Kind
pub mod Digits
pub mod Order
pub mod Reading
pub mod Shown
