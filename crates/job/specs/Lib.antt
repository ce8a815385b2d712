pub mod Input
pub mod Output
pub mod Job
pub mod Mend
pub mod Inner
