pub mod SpecifierProofs
pub mod TransferProofs
