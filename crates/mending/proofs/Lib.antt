pub mod Nearest
pub mod Lengths
pub mod Answering
pub mod Alike
