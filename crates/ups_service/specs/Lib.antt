pub mod Asked
pub mod Claiming
pub mod Law
pub mod Looking
pub mod Reporting
pub mod State
