-- The laws that the proofs of this module cite.
pub mod Refused
