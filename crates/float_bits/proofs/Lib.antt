-- First which floats and which bits are a NaN, then the nearest whole number to a quotient, then the bits of the f32 nearest to an f64.
pub mod Words
pub mod Round
pub mod Nearest
