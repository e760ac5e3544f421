mod Cases
pub mod AppendLaws
pub mod FrameLemmas
pub mod ReadLaws
