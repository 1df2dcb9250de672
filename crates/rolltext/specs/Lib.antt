-- What is printed of a roll.
pub mod Printing
pub mod Examples
pub mod Private
