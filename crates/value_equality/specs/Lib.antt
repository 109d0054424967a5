pub mod Classes
pub mod Equality
pub mod Kind
