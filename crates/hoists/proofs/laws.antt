-- Lemmas about the profile, for the theorems and the code.
pub mod Computed
pub mod Inputs
pub mod Vectors
pub mod Judged
