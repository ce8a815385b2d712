pub mod Answers
pub mod Checks
pub mod Report
pub mod Inner
