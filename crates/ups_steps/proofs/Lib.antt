mod Covering
mod Placing
pub mod Putting
mod Taking
pub mod Walking
