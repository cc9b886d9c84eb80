mod Again
mod Answering
mod Depths
mod Fitting
mod Going
mod Goods
mod Growing
pub mod Halves
mod Heads
pub mod Keeping
pub mod Laying
mod Letters
mod Listings
pub mod Merges
mod Parts
pub mod Places
mod Sizes
mod Ways
mod Whole
