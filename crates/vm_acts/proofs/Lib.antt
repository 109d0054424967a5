-- Lists as they lie, the definition's text over any values, then what comes of an act, the operands it takes, a frame that is left. Last, that
-- programs which write before they stop are ruled out.
pub mod Stacks
pub mod Opens
pub mod Carries
pub mod Takes
pub mod Leaves
pub mod Refused
pub mod Same
