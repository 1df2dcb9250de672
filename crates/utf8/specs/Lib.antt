-- The definitions that this crate's contracts cite, and examples of them.
pub mod Utf8
pub mod Examples
pub mod Private
