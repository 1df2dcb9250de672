-- The definitions that the grammars are written in.
pub mod Rule
