-- The slots of a census in lent memory.
pub mod Slot
pub mod Find
pub mod Private
