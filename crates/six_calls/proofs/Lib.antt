-- The laws that the proofs of this crate cite, and those above it.
pub mod Arms
