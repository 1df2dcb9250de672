-- What withdrawing answers and leaves.
pub mod Withdrawing
pub mod Private
