-- The laws that the proofs of this module, and of those that look an offset up, cite.
pub mod Indexes
