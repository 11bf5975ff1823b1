pub mod Pieces
pub mod Possible
pub mod Nulls
pub mod Refusals
pub mod Calls
