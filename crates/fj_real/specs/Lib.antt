pub mod RealSource
pub mod RealSink
pub mod RealFile
pub mod RealDisk
pub mod Kept
pub mod PartDisk
pub mod FileSource
