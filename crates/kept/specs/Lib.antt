-- What a census owes over any calls.
pub mod Holds
pub mod Kept
pub mod United
pub mod Private
