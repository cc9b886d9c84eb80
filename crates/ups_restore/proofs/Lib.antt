mod Acks
mod Between
mod Counted
mod Going
mod Groups
mod Keeping
mod Leftover
mod Legally
mod Needing
pub mod Onward
mod Runs
mod Taking
