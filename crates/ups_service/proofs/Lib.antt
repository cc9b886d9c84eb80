mod Acknowledging
pub mod Calling
mod Delivering
mod Got
pub mod Legality
pub mod Looks
pub mod Members
mod Numbers
pub mod OneClaim
pub mod StillPending
mod Worked
