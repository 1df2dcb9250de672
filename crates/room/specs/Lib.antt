-- The definition that this crate's contracts cite, and examples of it.
pub mod Put
pub mod Examples
