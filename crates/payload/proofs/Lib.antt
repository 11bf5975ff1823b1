pub mod Laws
pub mod Fields
pub mod Below
pub mod Listing
pub mod Parsed
pub mod Handed
pub mod Refusals
