pub mod Rule
pub mod Laws
pub mod Rows
pub mod Codes
pub mod Refusals
pub mod Tables
