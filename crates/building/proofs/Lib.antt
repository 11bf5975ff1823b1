pub mod Sizes
pub mod Rows
pub mod Calls
pub mod Answers
pub mod Judged
pub mod Faults
pub mod Refusals
pub mod WithFault
