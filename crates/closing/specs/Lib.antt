pub mod Closing
pub mod Done
pub mod Private
