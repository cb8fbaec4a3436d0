-- The laws that the proofs of this module cite, and of those that rest on it.
pub mod Entries
