pub mod Rules
pub mod Many
pub mod Free
pub mod Longest
pub mod Places
pub mod Sizes
