pub mod Shared
pub mod Laws
