pub mod Longest
pub mod Puts
pub mod Outcomes
pub mod Unique
pub mod RoundTrip
