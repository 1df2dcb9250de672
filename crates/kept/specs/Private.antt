-- What only proofs need: it need not be believed.
pub mod Keeps
