-- The definition that this crate's contracts cite, and demands 1 and 3 of what the writers answer and leave.
pub mod Writes
pub mod Demand1
pub mod Demand3
