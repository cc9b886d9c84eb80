mod Leaving
mod Seating
mod Words
