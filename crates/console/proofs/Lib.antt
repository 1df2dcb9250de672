mod Moves
mod Zeros
