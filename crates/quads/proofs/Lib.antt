pub mod Laws
pub mod Windows
