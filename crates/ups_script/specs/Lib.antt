pub mod Limits
pub mod Lines
pub mod Printing
pub mod Running
pub mod Telling
