-- The definitions that the public contracts cite are in `text`.
pub mod Private
