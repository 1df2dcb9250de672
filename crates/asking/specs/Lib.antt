-- What the questions answer.
pub mod Asking
pub mod Private
