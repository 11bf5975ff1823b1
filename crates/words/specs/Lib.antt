pub mod Status
pub mod Failure
pub mod Number
pub mod Text
pub mod Kinds
pub mod ConnectionWords
pub mod BuildingWords
pub mod FixedWords
