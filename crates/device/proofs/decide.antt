-- The laws that the proofs of this module cite, and of those who ask it.
pub mod Deciding
