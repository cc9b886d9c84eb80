pub mod Hexing
pub mod Limits
pub mod Piping
