pub mod FrameLaws
pub mod Frames
pub mod Reading
pub mod Stored
