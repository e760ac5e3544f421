pub mod Blanks
pub mod Numbers
pub mod ComingBack
pub mod Shown
