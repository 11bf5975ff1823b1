pub mod Sending
pub mod Private
