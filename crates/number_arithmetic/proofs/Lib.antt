-- One file: what std's checked operations answer, as the definition has it.
pub mod Checked
