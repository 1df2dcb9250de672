pub mod Four
pub mod Groups
pub mod Six
pub mod Fits
pub mod Examples
pub mod Number
