pub mod Bytes
pub mod Numbers
pub mod Lines
pub mod Fields
pub mod Inner
pub mod Writing
