pub mod Mending
pub mod Outcomes
pub mod Worked
