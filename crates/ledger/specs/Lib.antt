pub mod Layout
pub mod Sessions
pub mod Memory
pub mod Readiness
pub mod Calls
pub mod History
