-- The definitions that this crate's contracts cite, and examples of them.
pub mod Eui64
pub mod Examples
