-- The definitions that this crate's contracts cite: what a state stands for, what a call does, calls one after another, and the numbers of refusals; the
-- number that a call owes, calls some of which are refused, how much room is enough, and examples.
pub mod View
pub mod Call
pub mod Calls
pub mod Number
pub mod Owed
pub mod CallsWithRefused
pub mod Room
pub mod Examples
pub mod Private
