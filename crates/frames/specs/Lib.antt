pub mod Reading
pub mod Output
