mod Again
mod Decoding
mod Encoding
mod Falling
mod Forming
mod Parting
pub mod Printed
mod Tagging
mod Worked
