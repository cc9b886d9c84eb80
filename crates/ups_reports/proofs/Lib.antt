mod Sizes
mod Worked
