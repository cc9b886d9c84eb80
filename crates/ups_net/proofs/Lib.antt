pub mod Audited
pub mod Crosses
pub mod Ending
pub mod Served
pub mod Staying
pub mod Watching
