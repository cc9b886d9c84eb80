pub mod Alike
pub mod Asking
pub mod Faults
pub mod Limits
pub mod Questions
pub mod Told
