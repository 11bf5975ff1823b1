pub mod Token
pub mod Names
pub mod Row
pub mod Method
pub mod Header
pub mod Attribute
pub mod Private
