pub mod Elements
pub mod Escapes
pub mod Forms
pub mod Limits
pub mod Printing
pub mod Ways
pub mod Words
