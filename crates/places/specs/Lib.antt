pub mod Entries
pub mod Private
