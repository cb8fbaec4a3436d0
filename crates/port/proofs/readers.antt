-- The laws that the proofs of this module, and of the writers, cite.
pub mod Bytes
pub mod Deep
