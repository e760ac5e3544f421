pub mod Moved
pub mod Cells
pub mod Items
pub mod Load
pub mod Values
pub mod Elements
