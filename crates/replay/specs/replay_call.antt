-- What a call's record asks, and what the rules give for it.
pub mod Recorded
