pub mod Flags
pub mod Failures
pub mod Records
pub mod FixedWords
pub mod Texts
pub mod Capped
pub mod Errors
