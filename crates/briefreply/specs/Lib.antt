-- The definitions that this crate's contracts cite, and examples of them.
pub mod Gives
pub mod Plain
pub mod Examples
pub mod Private
