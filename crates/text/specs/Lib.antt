-- The definitions that this crate's contracts cite, and examples of them.
pub mod Find
pub mod Word
pub mod Place
pub mod Example
pub mod Examples
