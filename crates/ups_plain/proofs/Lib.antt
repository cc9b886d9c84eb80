mod Depths
mod Filters
mod Walked
mod Walks
