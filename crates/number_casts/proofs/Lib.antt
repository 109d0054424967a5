-- First the whole part of an f64 by its bits, then the laws of the casts.
pub mod Whole
pub mod CastLaws
