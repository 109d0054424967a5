-- One file: from what `check` answers to the definition's answer.
pub mod Spelling
