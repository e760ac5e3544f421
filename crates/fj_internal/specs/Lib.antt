pub mod Internal
pub mod Carried
pub mod InternalLaws
pub mod Records
pub mod OneElement
