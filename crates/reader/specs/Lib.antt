pub mod Frame
pub mod Meaning
pub mod Reading
pub mod Private
