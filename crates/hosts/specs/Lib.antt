-- When two hosts name one server, what that owes, and examples of it.
pub mod Server
pub mod Owed
pub mod Examples
