-- The state of a census.
pub mod State
pub mod Outcome
