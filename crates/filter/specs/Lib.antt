pub mod Filter
pub mod First
