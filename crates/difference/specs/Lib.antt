-- The difference of two numbers of events (02, C-19).
pub mod Difference
