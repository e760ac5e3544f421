pub mod Statements
pub mod Pieces
pub mod RoundTrip
pub mod Numbered
pub mod Listed
pub mod Unformatted
pub mod Kinds
