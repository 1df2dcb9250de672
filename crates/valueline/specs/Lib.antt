-- The definitions that this crate's contracts cite, and an example of them.
pub mod Line
pub mod Examples
pub mod Private
