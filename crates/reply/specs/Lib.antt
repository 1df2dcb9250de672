-- The definitions that this crate's public contract cites are in `report` and `briefreply`.
pub mod Private
