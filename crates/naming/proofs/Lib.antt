pub mod Laws
pub mod ClockRule
pub mod Before
