pub mod Cancels
pub mod Items
pub mod Laying
