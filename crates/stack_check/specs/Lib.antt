pub mod Node
pub mod Flat
pub mod Progress
pub mod Answer
pub mod Slices
