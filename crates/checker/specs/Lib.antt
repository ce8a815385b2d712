pub mod Says
pub mod Inner
