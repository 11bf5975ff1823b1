pub mod Meaning
pub mod Fixed
pub mod Header
pub mod Attribute
pub mod Private
pub mod Strings
