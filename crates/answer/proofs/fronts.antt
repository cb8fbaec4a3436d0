-- The laws that the fronts' proofs cite.
pub mod Told
