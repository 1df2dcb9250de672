-- The definitions that this crate's contracts cite, and examples of them.
pub mod Refusal
pub mod Records
pub mod Domain
pub mod Setters
pub mod Examples
