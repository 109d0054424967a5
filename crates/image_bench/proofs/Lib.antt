-- One file: what a caller of `load` reads in the work slices, by the laws that the crate `image` gives.
pub mod Use
