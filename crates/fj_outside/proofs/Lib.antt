pub mod ByteLaws
mod Cases
mod FaultLaws
pub mod HoldingLaws
mod TableLaws
mod WindowLaws
