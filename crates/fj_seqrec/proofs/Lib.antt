mod Cases
pub mod BackspaceLaws
pub mod LastLine
pub mod LineLemmas
pub mod Positions
pub mod ReadLaws
