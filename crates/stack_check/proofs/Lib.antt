-- First an instruction as a node, changes of height and what `inspect` says; by these, what the search keeps and what its end says; then from
-- nodes to the definition's rules, from one chunk to all like it, and from the chunks to the image.
pub mod Nodes
pub mod Sums
pub mod Found
pub mod Theory
pub mod Same
pub mod Alike
pub mod Whole
