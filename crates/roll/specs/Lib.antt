-- What a line makes of a roll, and what holds over all lines.
pub mod Taking
pub mod Whole
pub mod Examples
