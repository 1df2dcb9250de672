pub mod Bools
pub mod Left
pub mod Laws
pub mod Parts
pub mod Cuts
pub mod Ascii
pub mod Lines
