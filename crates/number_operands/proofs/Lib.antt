-- What a sign and a magnitude stands for.
pub mod SignMagnitudes
