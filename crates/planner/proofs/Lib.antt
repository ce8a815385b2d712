pub mod Ways
pub mod Going
pub mod Walking
pub mod Both
pub mod Answering
pub mod Unique
