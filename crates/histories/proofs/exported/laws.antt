-- Lemmas about exported calls one after another, for the demands.
pub mod Holding
pub mod Handed
pub mod Chains
pub mod Readings
pub mod Without
pub mod Dropping
