pub mod Slot
pub mod Laws
pub mod Settled
