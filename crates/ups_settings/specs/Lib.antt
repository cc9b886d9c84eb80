pub mod Defaults
pub mod Refusal
