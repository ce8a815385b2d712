pub mod Leaving
pub mod Inner
