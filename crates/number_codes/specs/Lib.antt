pub mod Payloads
pub mod Targets
