-- Lemmas about one input's events and about the ring, for the theorems.
pub mod Balance
pub mod Flow
pub mod Inputs
pub mod Carrying
