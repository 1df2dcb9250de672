-- The definitions that this crate's contracts cite, and examples of them.
pub mod Decimal
pub mod Hex
pub mod Examples
