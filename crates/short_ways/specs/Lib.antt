pub mod Short
pub mod Private
