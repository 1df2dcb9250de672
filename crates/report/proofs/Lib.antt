-- The theorems of the report, and the laws of its definitions that the code above cites.
pub mod Lines
pub mod Bounds
pub mod Printed
pub mod Counting
pub mod Whole
pub mod Worked
