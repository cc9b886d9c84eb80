pub mod Compacting
pub mod Leaving
pub mod Lessening
pub mod Replaying
pub mod Surveying
