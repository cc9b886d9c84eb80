pub mod Held
pub mod Parts
pub mod Places
pub mod Table
