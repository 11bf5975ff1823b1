pub mod Framing
pub mod Below
pub mod Laws
