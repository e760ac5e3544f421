pub mod CellLemmas
pub mod LoadLemmas
pub mod ItemLemmas
pub mod ElementLemmas
pub mod MovedLemmas
