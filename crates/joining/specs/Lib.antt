-- What joining answers and leaves.
pub mod Joining
pub mod Private
