-- One file: the order of signs and magnitudes.
pub mod Orders
