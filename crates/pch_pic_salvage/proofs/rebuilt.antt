-- The laws that the proofs of this module cite.
pub mod Written
pub mod Rounds
pub mod Copied
