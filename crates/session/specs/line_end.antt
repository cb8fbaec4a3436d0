-- A line's answer with its ending.
pub mod Ended
