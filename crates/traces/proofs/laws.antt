-- Lemmas about contents, blocks and records, for the theorems and the code.
pub mod Computed
pub mod Contents
pub mod Blocks
pub mod Firsts
pub mod Plays
