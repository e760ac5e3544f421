mod Cases
pub mod Apart
pub mod CopyLaws
pub mod RecordLaws
pub mod Gaps
pub mod RunLemmas
