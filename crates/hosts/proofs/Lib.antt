pub mod Case
pub mod Owed
pub mod Laws
