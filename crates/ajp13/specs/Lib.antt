pub mod Reading
pub mod Sending
pub mod Piece
pub mod Private
