pub mod Lines
pub mod Sheets
pub mod Faults
pub mod Reading
pub mod Inner
