pub mod Answer
pub mod Effect
pub mod Told
pub mod Private
