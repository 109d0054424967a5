-- One file: from what `run` answers to the definition's answer.
pub mod Spelling
