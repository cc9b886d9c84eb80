pub mod Backed
pub mod Behind
pub mod Grouping
pub mod Keeping
