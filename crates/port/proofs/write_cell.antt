-- The laws that the proofs of the writers cite.
pub mod Acted
pub mod Bytes
