-- The definitions that this crate's contracts cite.
pub mod Told
pub mod Private
