-- The laws that the proofs of this module cite, and those above it.
pub mod Rows
pub mod Skipping
