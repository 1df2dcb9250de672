-- A number that hosts of one server share.
pub mod Mixed
pub mod Server
