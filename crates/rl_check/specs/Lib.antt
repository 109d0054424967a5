pub mod Work
pub mod Check
pub mod Numbers
