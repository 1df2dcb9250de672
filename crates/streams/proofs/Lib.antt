-- The theorems of the plain list, and of a book that stands for one.
pub mod Lists
pub mod Sums
pub mod Clocks
pub mod Book
pub mod Widened
pub mod Total
