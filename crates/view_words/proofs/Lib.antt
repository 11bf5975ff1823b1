pub mod Views
pub mod Names
