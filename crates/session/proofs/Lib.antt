pub mod Pushes
pub mod Backs
pub mod Openings
pub mod Ranges
pub mod Calls
pub mod Opens
