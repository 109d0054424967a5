pub mod Computes
pub mod Nearest
