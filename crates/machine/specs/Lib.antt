pub mod Copied
pub mod Inner
pub mod Kinds
