-- The laws that the proofs of this crate and of those above cite.
pub mod Forms
