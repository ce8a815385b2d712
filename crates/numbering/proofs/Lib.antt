pub mod Numbering
pub mod Over
pub mod Sheets
pub mod Order
pub mod ByWords
pub mod States
