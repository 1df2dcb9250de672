pub mod Decides
pub mod Equality
pub mod Laws
pub mod Shared
pub mod PrintLaws
