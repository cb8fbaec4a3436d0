-- Lemmas about the definitions, each stated once.
pub mod Computing
pub mod Outcomes
pub mod Conversions
pub mod Refusals
pub mod Answers
pub mod Requests
pub mod Waits
pub mod Tables
