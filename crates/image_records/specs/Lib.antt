pub mod Records
pub mod Tags
