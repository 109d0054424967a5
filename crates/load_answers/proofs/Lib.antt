-- One file: no bytes are refused with 9, the number of a work slice that is too short.
pub mod NoNine
