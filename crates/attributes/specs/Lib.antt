pub mod Private
pub mod Attributes
pub mod Facts
