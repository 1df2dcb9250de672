pub mod Quick
pub mod Departures
