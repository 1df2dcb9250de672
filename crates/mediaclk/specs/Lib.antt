-- The definitions that the public contract cites are in `meaning`.
pub mod Private
