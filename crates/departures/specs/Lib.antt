-- Rows of where reading departs from the RFC.
pub mod Departures
