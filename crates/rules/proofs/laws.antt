-- Lemmas about the definitions, each stated once. Crate laws has those that no edit of a definition is refused by.
pub mod Running
pub mod Computed
pub mod Rings
pub mod Numbered
pub mod Acts
pub mod Steps
pub mod Counts
