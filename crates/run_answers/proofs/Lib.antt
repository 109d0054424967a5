-- One file: from what `load`, `run_frames` and `code_value` ensure to what `run` ensures.
pub mod Running
