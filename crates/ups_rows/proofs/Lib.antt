mod Adding
pub mod Crosses
mod Parts
