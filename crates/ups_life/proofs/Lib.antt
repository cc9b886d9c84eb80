pub mod Accepted
pub mod Current
mod Finals
pub mod HeldOnce
pub mod NewSets
pub mod Newly
pub mod OneHolder
pub mod Past
pub mod Receiving
pub mod Queued
mod Retained
pub mod Rows
pub mod RowsTell
pub mod Tags
pub mod Texts
pub mod Untold
pub mod Verdicts
pub mod Viewing
mod Worked
mod WorkedEvents
mod WorkedSubscribing
mod WorkedWatching
mod WorkedWorklists
