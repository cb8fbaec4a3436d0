-- The laws that the proofs of this module cite.
pub mod Visiting
pub mod Moving
