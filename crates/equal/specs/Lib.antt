-- What this crate's contracts cite (Decides, Alike, Fingerprint), what that owes and examples of it; the code's own shape is private.
pub mod Decides
pub mod Alike
pub mod Fingerprint
pub mod Equality
pub mod Examples
pub mod Private
