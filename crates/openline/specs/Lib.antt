-- The definitions that this crate's contracts cite: the memory after a fragment, and what a fragment and the end of the text do.
pub mod Memory
pub mod Advance
pub mod Private
