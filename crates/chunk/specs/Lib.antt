pub mod Table
pub mod Cursor
pub mod Decode
pub mod Fault
