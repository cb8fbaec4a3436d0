-- Lemmas about days and waits, for the theorems.
pub mod Computed
