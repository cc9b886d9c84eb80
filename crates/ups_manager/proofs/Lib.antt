mod Acknowledging
pub mod Alone
pub mod Crosses
mod Classes
mod Entering
mod Finding
mod Fitting
mod Keyed
mod Known
mod Matches
mod Offsets
mod Outsiders
mod Reindexed
mod Remembering
mod Reserving
mod Small
mod Watchers
mod Watches
