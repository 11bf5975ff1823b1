pub mod Ends
pub mod Past
pub mod Readable
pub mod Made
pub mod Claims
pub mod Head
