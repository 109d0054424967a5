-- First the words of floats, for every operation, then the integers of a kind by their places, the least first.
pub mod Floats
pub mod Places
