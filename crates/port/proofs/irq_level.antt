-- The laws that the proofs of this module cite.
pub mod Turns
pub mod Service
