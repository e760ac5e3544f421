pub mod Asking
pub mod Agreement
pub mod Cases
pub mod Becoming
