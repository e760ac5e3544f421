pub mod PieceLaws
pub mod Pieces
pub mod Runs
