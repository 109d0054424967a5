-- One module: what `check` ensures, from what `load` and `check_image` ensure.
pub mod Checking
