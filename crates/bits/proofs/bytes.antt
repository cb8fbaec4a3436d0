-- The laws that the proofs of this module cite, and those who write words one after another.
pub mod Putting
