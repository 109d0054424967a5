-- One file: the marks of the list.
pub mod Marked
