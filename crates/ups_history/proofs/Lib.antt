mod Keeping
mod Places
