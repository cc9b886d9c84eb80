pub mod Contents
pub mod Statuses
pub mod Storing
