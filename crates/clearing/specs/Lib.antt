pub mod Lent
pub mod Zero
