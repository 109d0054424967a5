-- First the table's rows, then what a fetch says of the code; by these, what the decoder answers on each way out; last, the faults of an instruction.
pub mod Rows
pub mod Fetches
pub mod Decoding
pub mod Judging
