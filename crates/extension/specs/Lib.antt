-- What the reader of this crate answers, in the terms of the rules.
pub mod Parts
