pub mod Looks
pub mod Turning
pub mod Whole
