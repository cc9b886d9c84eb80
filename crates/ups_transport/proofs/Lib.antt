mod Leaving
