-- The worked images first: they compute the whole definition; then the images that pass. Then, in order: what every step does, of every image;
-- demand 3; the other claims; equality; the simulation of one algebra by another; the format; the laws for proofs of code, and the table of whole
-- steps by them
pub mod Answers
pub mod CheckedImages
pub mod Frames
pub mod FaultsOfSteps
pub mod CountsOfSteps
pub mod OwnLocals
pub mod LowerSlots
pub mod Instructions
pub mod Invariant
pub mod Protected
pub mod OneRun
pub mod Spent
pub mod OneAnswer
pub mod TestedHeights
pub mod Witnesses
pub mod Equality
pub mod Simulation
pub mod SimulatedValues
pub mod SimulatedRuns
pub mod Judged
pub mod Keeps
pub mod KeptValues
pub mod WellFormed
pub mod Endings
pub mod Laws
pub mod TableOfSteps
pub mod ChangeOfHeight
pub mod Proved
