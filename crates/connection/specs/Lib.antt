pub mod Connection
pub mod Step
pub mod Cycle
pub mod Facts
