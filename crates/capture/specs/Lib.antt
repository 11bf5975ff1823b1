pub mod Course
pub mod Facts
