pub mod Growing
pub mod Had
pub mod Leaving
