mod Digits
mod Settling
