-- The laws that the proofs of this module cite.
pub mod Counting
pub mod Good
pub mod Rounds
