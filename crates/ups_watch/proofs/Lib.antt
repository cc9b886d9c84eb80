pub mod Blanks
pub mod Cells
pub mod Filling
pub mod Seen
pub mod Newly
pub mod Peers
pub mod Keeping
