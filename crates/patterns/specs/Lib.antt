pub mod Pattern
pub mod Line
pub mod Places
pub mod Outcome
pub mod Worked
