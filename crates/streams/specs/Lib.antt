-- The census as a plain list of streams, over any rule of naming clocks and any limits.
pub mod Rule
pub mod Streams
pub mod Calls
pub mod Limits
pub mod Sums
pub mod Book
pub mod Total
pub mod Examples
pub mod Private
