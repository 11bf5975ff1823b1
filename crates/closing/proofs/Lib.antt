pub mod Setting
pub mod Laws
pub mod Refusals
