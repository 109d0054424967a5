pub mod Reasons
pub mod Memory
pub mod Acts
pub mod Formed
pub mod Constants
