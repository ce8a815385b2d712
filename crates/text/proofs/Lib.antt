pub mod Decimals
pub mod Scans
pub mod Judging
pub mod Fields
pub mod Cutting
pub mod Putting
pub mod Unique
