-- The laws that the proofs of all that saves cite.
pub mod Putting
