pub mod View
pub mod Name
