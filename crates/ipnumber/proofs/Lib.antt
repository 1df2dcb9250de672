pub mod Held
pub mod Octets
pub mod Groups
pub mod Whole
