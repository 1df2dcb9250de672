-- The report of a whole text, and the reader that makes it from fragments.
pub mod Lines
pub mod Reply
pub mod Report
pub mod Reader
pub mod Whole
pub mod Examples
pub mod Worked
