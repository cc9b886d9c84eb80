pub mod Limits
pub mod Moving
