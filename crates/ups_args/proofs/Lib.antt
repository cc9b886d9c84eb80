mod Naming
mod Parts
mod Refusing
