-- First the memo of cells found equal, and contents by class numbers; then the test of two heads and the equality of two values; last, the
-- kind test and the laws of class numbers.
pub mod Memos
pub mod Contents
pub mod Heads
pub mod Equals
pub mod KindTests
pub mod ClassLaws
