pub mod Journal
pub mod Metrics
