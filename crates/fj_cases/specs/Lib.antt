pub mod ListedDisk
