-- RFC 7273's grammar, what its texts mean, and what reading is to make of them.
pub mod Manner
pub mod Elsewhere
pub mod Kinds
pub mod Grammar
pub mod Means
pub mod Taken
