pub mod WordProofs
mod Cases
