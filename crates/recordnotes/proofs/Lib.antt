pub mod PartsLaws
pub mod ReferenceLaws
pub mod MediaLaws
