pub mod LineTexts
pub mod PageLemmas
pub mod RecordLaws
pub mod Cases
pub mod Carrying
