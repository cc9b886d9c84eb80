pub mod Text
pub mod Permits
