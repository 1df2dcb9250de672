-- What counting answers and leaves.
pub mod Counting
pub mod Private
