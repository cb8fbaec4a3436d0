-- Lemmas about blocks as bytes and the trace that has them, for the theorems and the code.
pub mod Computed
pub mod Chosen
pub mod Built
pub mod Taken
