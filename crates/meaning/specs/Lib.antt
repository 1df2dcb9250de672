-- The rules: what each value reads as, what a record means, and the text of a meaning.
pub mod Answer
pub mod Meaning
pub mod Domain
pub mod ReferenceClock
pub mod MediaClock
pub mod Text
pub mod Inside
pub mod Written
pub mod Demand1
pub mod Demand3
pub mod Rows
pub mod Refusals
