pub mod Following
pub mod Answering
pub mod Unique
