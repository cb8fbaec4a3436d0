-- The laws that the proofs of this module cite, and of `play_on`.
pub mod Endings
