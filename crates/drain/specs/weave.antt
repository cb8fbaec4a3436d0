-- What is promised of pairs and numbers that come together.
pub mod Weave
