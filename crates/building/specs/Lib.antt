pub mod Fault
pub mod Field
pub mod Call
pub mod Sent
pub mod Judged
