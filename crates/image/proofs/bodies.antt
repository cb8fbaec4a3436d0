-- The laws that the proofs of this module cite.
pub mod Tested
pub mod Rings
pub mod Orders
