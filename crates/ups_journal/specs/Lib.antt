pub mod Columns
pub mod Operations
pub mod Writable
