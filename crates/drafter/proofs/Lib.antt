pub mod Making
pub mod Drafts
pub mod Unique
