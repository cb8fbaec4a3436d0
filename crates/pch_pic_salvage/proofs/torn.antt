-- The laws that the proofs of this module cite, and those who write what is left.
pub mod Rounds
