-- Lemmas.
pub mod Dues
