-- The rule by which values name clocks, and the domain number of a clock.
pub mod Domain
pub mod ClockRule
