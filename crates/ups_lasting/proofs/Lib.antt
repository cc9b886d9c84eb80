pub mod Appending
mod Carried
mod Drafted
mod Exchanged
mod Finished
mod Followed
mod Fronts
mod GoingOn
mod Slices
pub mod Stages
pub mod Standing
mod Surveyed
mod Turning
