pub mod Parts
pub mod Looking
pub mod Inserting
pub mod Least
pub mod Keeping
pub mod Leaving
pub mod Entering
pub mod Unique
