-- The two questions, and what they owe.
pub mod SameClock
pub mod Governing
pub mod Owed
pub mod Examples
pub mod Private
