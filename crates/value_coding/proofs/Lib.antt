-- One file: the coding of a value, its header and then its parts in turn.
pub mod Codes
