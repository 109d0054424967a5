-- One file: the turns of the timed loops, and the number that they start from.
pub mod Loops
