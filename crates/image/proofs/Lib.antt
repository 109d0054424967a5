-- First the work slices after one record more, and blanked; by these, the reading of all lines; that it gives document 01's image; last,
-- where a caller finds texts and chunks in the slices.
pub mod Grown
pub mod Blanking
pub mod Reading
pub mod Nested
pub mod Access
pub mod Found
