-- One file: values nested two arrays at a time.
pub mod Nesting
