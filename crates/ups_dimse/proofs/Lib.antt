pub mod Again
pub mod AttributeTags
pub mod Failing
pub mod Sizes
pub mod Sorting
pub mod UidText
pub mod Unique
pub mod Walk
mod Worked
