-- What uniting answers and leaves.
pub mod Uniting
pub mod Private
