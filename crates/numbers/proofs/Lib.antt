-- First signs and magnitudes; by these, the ranges of the kinds, wrapping, and sums, products and quotients; last, laws of negation and of casts
-- over the integer kinds.
pub mod Signs
pub mod Ranges
pub mod Wrap
pub mod Sums
pub mod NegateInRange
pub mod CastByValue
