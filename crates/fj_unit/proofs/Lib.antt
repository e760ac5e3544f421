mod Steps
mod Rows
mod OneFile
mod Kept
mod Modes
