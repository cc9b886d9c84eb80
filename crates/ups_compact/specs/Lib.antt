pub mod Compacting
pub mod Course
pub mod Shifting
pub mod Shifts
pub mod Sorting
