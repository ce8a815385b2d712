pub mod Bounds
pub mod Lists
pub mod Meaning
pub mod Prefixes
pub mod Comparing
pub mod Worked
