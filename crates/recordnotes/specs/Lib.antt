-- The definitions that this crate's contracts cite, and examples of them.
pub mod Notation
pub mod Examples
