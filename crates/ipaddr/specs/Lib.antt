-- The definitions that this crate's contracts cite.
pub mod Address
pub mod Number
pub mod Sized
pub mod Examples
pub mod Private
