pub mod Crosses
mod Sums
mod Prefixes
mod Steps
mod Turns
mod Served
mod Meets
mod Opens
mod Closes
mod Owns
mod Looked
