pub mod Acceptance
pub mod Inside
pub mod Starred
