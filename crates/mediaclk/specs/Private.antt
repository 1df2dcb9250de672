-- What only private functions and proofs need: it need not be believed.
pub mod Front
