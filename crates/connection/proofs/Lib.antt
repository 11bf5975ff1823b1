pub mod Laws
pub mod Commute
pub mod Refusals
pub mod Head
