pub mod ChangeLaws
pub mod KeptLemmas
pub mod PieceLaws
