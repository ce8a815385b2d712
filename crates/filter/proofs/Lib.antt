pub mod Answering
pub mod Unique
pub mod Alike
pub mod Passes
