pub mod Laws
pub mod Owed
pub mod Examples
