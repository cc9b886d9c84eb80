mod Same
mod Unpadded
