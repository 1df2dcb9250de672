-- Numbers of four bytes.
pub mod Quad
