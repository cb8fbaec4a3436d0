-- Lemmas about the definitions, each stated once, over the form and the field. Crate laws has those that no edit of a definition is refused by.
pub mod Places
pub mod Layout
pub mod Twos
pub mod Tests
pub mod Saved
