mod Cases
pub mod Homes
pub mod Opened
pub mod OpeningProofs
pub mod ErrorProofs
pub mod RestProofs
pub mod MotionProofs
pub mod TransferProofs
pub mod AheadProofs
