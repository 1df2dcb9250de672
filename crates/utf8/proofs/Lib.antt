pub mod Leads
pub mod Laws
pub mod Text
