pub mod Domains
pub mod Slots
pub mod Found
pub mod Counting
pub mod Withdrawing
pub mod Joining
pub mod Uniting
pub mod Kept
