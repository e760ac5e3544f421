pub mod RoundTrip
pub mod Shown
