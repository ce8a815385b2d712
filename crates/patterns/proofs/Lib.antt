pub mod Members
pub mod Places
pub mod Words
pub mod Sets
pub mod Reading
pub mod Grammar
pub mod Lines
pub mod Demand
