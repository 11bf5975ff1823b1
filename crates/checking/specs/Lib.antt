pub mod Checking
pub mod Parts
pub mod Private
