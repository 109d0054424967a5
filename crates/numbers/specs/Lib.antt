pub mod Kinds
pub mod Scalars
pub mod Answers
pub mod Arithmetic
pub mod Compare
pub mod Casts
pub mod Worked
