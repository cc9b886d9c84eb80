pub mod Kept
pub mod Queue
pub mod Telling
