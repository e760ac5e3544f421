pub mod AnyLemmas
pub mod BookLemmas
pub mod CountLemmas
pub mod SiftLemmas
pub mod LawLemmas
pub mod MeetLemmas
pub mod RowLemmas
