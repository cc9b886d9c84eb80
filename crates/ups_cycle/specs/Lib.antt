pub mod Cycle
pub mod States
pub mod Statuses
