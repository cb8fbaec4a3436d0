-- The laws that the proofs of this module cite, and of the crates above it.
pub mod Digits
pub mod OneField
