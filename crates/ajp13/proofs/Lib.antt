pub mod Within
pub mod Private
pub mod Effects
pub mod Pieces
pub mod Unchanged
pub mod Statuses
