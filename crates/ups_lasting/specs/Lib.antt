pub mod Doubting
pub mod Exchanging
pub mod Leaving
pub mod LogLeft
pub mod Slices
pub mod Stages
pub mod Standing
pub mod Tending
